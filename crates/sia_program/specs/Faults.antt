-- The rules of blocks as they are printed: number, name, and the fields in order, each behind a space. Hashes are hexadecimal, a
-- bool is 0 or 1, and a fault of signatures is its name and its index.
use Rattle.std.specs.Prelude.{ℕ, Bool, List, [], ◌++◌, codes, decimal, if◌then◌else◌}
use Rattle.hex.specs.Hex.{encode_lower}
use Rattle.sia_rules.specs.declared.fault.BlockFault.{BlockFault}
use Rattle.sia_rules.specs.declared.fault.BlockFault.TheVariants as block_fault
use Rattle.sia_types.specs.declared.sig_fault.SigFault.{SigFault}
use Rattle.sia_types.specs.declared.sig_fault.SigFault.TheVariants as sig_fault

-- a name and a hash
unfoldable pub with_hash : List ℕ → List ℕ → List ℕ
with_hash name hash = name ++ (codes " " ++ encode_lower hash)

-- a name and a number
unfoldable pub with_one : List ℕ → ℕ → List ℕ
with_one name first = name ++ (codes " " ++ decimal first)

-- a name and two numbers
unfoldable pub with_two : List ℕ → ℕ → ℕ → List ℕ
with_two name first second = name ++ (codes " " ++ (decimal first ++ (codes " " ++ decimal second)))

-- a name and three numbers
unfoldable pub with_three : List ℕ → ℕ → ℕ → ℕ → List ℕ
with_three name first second third = name ++ (codes " " ++ (decimal first ++ (codes " " ++ (decimal second ++ (codes " " ++ decimal third)))))

-- a bool as a digit
abbrev pub bool_digit : Bool → ℕ
bool_digit flag = if flag then 1 else 0

-- a fault of signatures. Want of memory is none.
unfoldable pub signature_fault_text : SigFault → List ℕ
signature_fault_text (sig_fault.MissingSig i) = with_one (codes "MissingSig") i
signature_fault_text (sig_fault.BadSig i) = with_one (codes "BadSig") i
signature_fault_text (sig_fault.Frivolous i) = with_one (codes "Frivolous") i
signature_fault_text (sig_fault.Timelock i) = with_one (codes "Timelock") i
signature_fault_text sig_fault.Memory = []

-- a rule that a block breaks. Want of memory is none of them.
unfoldable pub block_fault_text : BlockFault → List ℕ
block_fault_text (block_fault.BadParent tip) = with_hash (codes "B1 BadParent") tip
block_fault_text (block_fault.TooLarge bytes) = with_one (codes "B2 TooLarge") bytes
block_fault_text block_fault.HeightEnd = codes "B3 HeightEnd"
block_fault_text (block_fault.SumTooLarge part) = with_one (codes "B4 SumTooLarge") part
block_fault_text (block_fault.BadValue part) = with_one (codes "B5 BadValue") part
block_fault_text (block_fault.PayoutSum need got) = with_two (codes "B6 PayoutSum") need got
block_fault_text (block_fault.ProofMix t) = with_one (codes "B7 ProofMix") t
block_fault_text (block_fault.Repeated t) = with_one (codes "B8 Repeated") t
block_fault_text (block_fault.NoCoin t i) = with_two (codes "B9 NoCoin") t i
block_fault_text (block_fault.Immature t i at) = with_three (codes "B10 Immature") t i at
block_fault_text (block_fault.NoContract t i) = with_two (codes "B11 NoContract") t i
block_fault_text (block_fault.NoFund t i) = with_two (codes "B12 NoFund") t i
block_fault_text (block_fault.Conditions t i) = with_two (codes "B13 Conditions") t i
block_fault_text (block_fault.Locked t i) = with_two (codes "B14 Locked") t i
block_fault_text (block_fault.FormWindow t i) = with_two (codes "B15 FormWindow") t i
block_fault_text (block_fault.FormSum t i) = with_two (codes "B16 FormSum") t i
block_fault_text (block_fault.RevNumber t i have) = with_three (codes "B17 RevNumber") t i have
block_fault_text (block_fault.RevWindow t i) = with_two (codes "B18 RevWindow") t i
block_fault_text (block_fault.RevSum t i) = with_two (codes "B19 RevSum") t i
block_fault_text (block_fault.ProofWindow t i start) = with_three (codes "B20 ProofWindow") t i start
block_fault_text (block_fault.BadProof t i) = with_two (codes "B21 BadProof") t i
block_fault_text (block_fault.Balance t funds input output) = codes "B22 Balance " ++ (decimal t ++ (codes " " ++ (decimal (bool_digit funds) ++ (codes " " ++ (decimal input ++ (codes " " ++ decimal output))))))
block_fault_text (block_fault.Signature t fault) = codes "B23 Signature " ++ (decimal t ++ (codes " " ++ signature_fault_text fault))
block_fault_text (block_fault.SameId id) = with_hash (codes "B24 SameId") id
block_fault_text block_fault.Memory = []
