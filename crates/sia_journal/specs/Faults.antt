-- What a read that failed is to the caller of a journal: the error of this product's own calls.
use Rattle.sia_edge.specs.declared.read_disk.ReadFault.{ReadFault}
use Rattle.sia_edge.specs.declared.read_disk.ReadFault.TheVariants as read
use Rattle.sia_journal.specs.declared.fault.JournalFault.{JournalFault}
use Rattle.sia_journal.specs.declared.fault.JournalFault.TheVariants as fault

-- a read that failed is the disk's fault, and want of memory stays what it is
abbrev pub fault_of_read : ReadFault → JournalFault
fault_of_read read.Failed = fault.Disk
fault_of_read read.Memory = fault.Memory
