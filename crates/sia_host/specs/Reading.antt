-- What a host answers to one that reads parts of sectors, or roots of sectors (RHP2's read and sector roots).
use Rattle.std.specs.Prelude.{ℕ, ◌+◌, Bool, List, [], length, nat_lt, not, ◌==◌, ◌||◌, Option}
use Rattle.std.specs.List.{list_all, sum_by}
use Rattle.std.specs.Option.{is_some}
use Rattle.sia_encoding.specs.Firsts.{broken, ◌or_else◌}
use Rattle.sia_range.specs.Ranges.{part_between, roots_outside}
use Rattle.sia_price.specs.declared.priced.Priced.{Priced}
use Rattle.sia_price.specs.declared.priced.Priced.TheVariants as priced
use Rattle.sia_rhp.specs.declared.answer.Answer.TheVariants as answer
use Rattle.sia_rhp.specs.declared.request_bodies.PaidRoots.{PaidRoots}
use Rattle.sia_rhp.specs.declared.request_bodies.ReadRequest.{ReadRequest}
use Rattle.sia_rhp.specs.declared.request_bodies.Section.{Section}
use Rattle.sia_records.specs.Reads.{Read, is_served, parts_of}
use Rattle.sia_commands.specs.declared.call.Call.{Call}
use Rattle.sia_commands.specs.declared.codes.TheConstants.{BAD_RANGE, NO_SECTOR}
use Rattle.sia_commands.specs.declared.event.Kind.TheVariants as kind
use Rattle.sia_commands.specs.declared.reply.Reply.{Reply}
use Rattle.sia_commands.specs.declared.reply.Reply.TheVariants as reply
use Rattle.sia_commands.specs.declared.step.Room.{Room}
use Rattle.sia_kept.specs.State.{Kept, roots_of}
use Rattle.sia_host.specs.Paying.{IsHeld, IsRevised, Payment, open_now, paid_revision, unpaid}
use Rattle.sia_host.specs.Writing.{slot_with}
use Rattle.sia_host.specs.Answered.{Reaction, Host, no_work}

-- parts of sectors

-- what is paid for sections
abbrev pub read_price : List Section → Priced
read_price sections = priced.Read (length sections) (sum_by (λ (s : Section). s.length) sections)

-- what is paid, by a request
abbrev pub read_payment : ReadRequest → Payment
read_payment request = record { number = request.number; valid = request.valid; missed = request.missed }

-- the contract has a sector for each section
abbrev pub has_sectors : Kept → List Section → Bool
has_sectors c sections = list_all (λ (s : Section). is_some (slot_with c s.root)) sections

-- why a read is refused, the first of these: a section is no range of a sector, or there are too many; the contract hasn't a
-- sector; it isn't paid
abbrev pub read_fault : Host → Read → Kept → Option ℕ
read_fault h read c =
    broken (not (is_served h.settings.sector read)) BAD_RANGE
    or_else broken (not (has_sectors c read.request.sections)) NO_SECTOR
    or_else unpaid h c (read_price read.request.sections) (read_payment read.request)

-- the reply to a read: the host's signature and the parts
abbrev pub read_said : Read → List ℕ → Reply
read_said read host = reply.Said (answer.Read (record { signature = host; parts = parts_of read }))

-- A read is answered so. The new revision stores what the newest one does.
abbrev pub IsRead : (List ℕ → List ℕ → List ℕ → Bool) → (List ℕ → List ℕ → Type 0) → Host → Room → ℕ → ℕ → Read → Reaction → Type 0
IsRead accepts Signs h room worker session read a =
    let call : Call = record { worker = worker; session = session; kind = kind.Read } in
    IsHeld h call (open_now h session) (read_fault h read)
    (λ c a. IsRevised accepts Signs h room call c.id c.renter_key (paid_revision c (read_payment read.request) c.newest.size c.newest.root) read.request.signature [] (read_said read) no_work a) a

-- roots of sectors

-- how many roots are told at once at most
abbrev pub most_roots : ℕ
most_roots = 1024

-- so many roots from this place on aren't a range of the contract's, or none or too many
abbrev pub is_outside : Kept → PaidRoots → Bool
is_outside c request = nat_lt (length c.sectors) (request.first + request.count) || (request.count == 0) || nat_lt most_roots request.count

-- what is paid, by a request
abbrev pub roots_payment : PaidRoots → Payment
roots_payment request = record { number = request.number; valid = request.valid; missed = request.missed }

-- why a request for roots is refused, the first of these: its range isn't one of the contract's; it isn't paid
abbrev pub roots_fault : Host → PaidRoots → Kept → Option ℕ
roots_fault h request c =
    broken (is_outside c request) BAD_RANGE
    or_else unpaid h c (priced.Roots request.count) (roots_payment request)

-- the reply to a request for roots: the host's signature, the roots, and their range proof over all sectors
abbrev pub roots_said : Kept → PaidRoots → List ℕ → Reply
roots_said c request host = reply.Said (answer.Roots (record {
  signature = host;
  roots = part_between request.first (request.first + request.count) (roots_of c);
  hashes = roots_outside (roots_of c) (length (roots_of c)) request.first (request.first + request.count);
}))

-- a request for roots is answered so
abbrev pub AreRoots : (List ℕ → List ℕ → List ℕ → Bool) → (List ℕ → List ℕ → Type 0) → Host → Room → ℕ → ℕ → PaidRoots → Reaction → Type 0
AreRoots accepts Signs h room worker session request a =
    let call : Call = record { worker = worker; session = session; kind = kind.Roots } in
    IsHeld h call (open_now h session) (roots_fault h request)
    (λ c a. IsRevised accepts Signs h room call c.id c.renter_key (paid_revision c (roots_payment request) c.newest.size c.newest.root) request.signature [] (roots_said c request) no_work a) a
