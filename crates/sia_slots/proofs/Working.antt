-- Answers that leave nothing to be done, that fetch a sector, and that make a record.
use Rattle.std.proofs.Common.{◌≡◌, ◌∙◌, inl, ℕ, ◌≤◌, List, [], All, Contains, length, map, take, Option, Some, None, refl, sym, ap, subst}
use Rattle.std.proofs.lemmas.List.Elements.{All-contains_itself, All-nil, All-weaker}
use Rattle.sia_records.specs.declared.host_record.HostRecord.{HostRecord}
use Rattle.sia_records.specs.Stored.{Stored}
use Rattle.sia_commands.specs.Filling.{FitsReply}
use Rattle.sia_commands.specs.declared.event.Event.{Event}
use Rattle.sia_commands.specs.declared.reply.Reply.{Reply}
use Rattle.sia_commands.specs.declared.step.PutJob.{PutJob}
use Rattle.sia_commands.specs.declared.step.Room.{Room}
use Rattle.sia_kept.specs.State.{live_slots, with_record}
use Rattle.sia_host.specs.Answered.{Host, Reaction, Work, fetching, framed_length, no_work}
use Rattle.sia_slots.specs.Slots.{ComesFrom, SlotsPass, sectors_in}
use Rattle.sia_slots.specs.Work.{IsWork}

-- what is there comes from there
pub comes_itself : (old : List Stored) (puts : List PutJob) → All (ComesFrom old puts) old
comes_itself old puts = All-weaker (Contains old) (ComesFrom old puts) (λ s has. inl has) old (All-contains_itself old)

-- an answer that leaves nothing
idle_so : (h : Host) (room : Room) (said : Reply) (event : Option Event) → IsWork h room (record { reply = said; event = event; made = None; work = no_work })
idle_so h room said event = record {
  slots = refl;
  sizes = All-nil (λ (p : PutJob). length p.bytes ≡ h.settings.sector);
  passes = λ slot. refl;
  sectors = comes_itself (sectors_in h.state) [];
  quiet = λ none. (refl, refl);
  fetched = λ slot is. absurd (cc);
  noted = λ none. (refl, refl);
  framed = λ made is. absurd (cc);
}

pub idle : (h : Host) (room : Room) (a r : Reaction) → r.made ≡ None → r.work ≡ no_work → a ≡ r → IsWork h room a
idle h room a r none nothing is =
    let bare : a ≡ record { reply = r.reply; event = r.event; made = None; work = no_work } =
    is ∙ ap (λ (m : Option HostRecord). record { reply = r.reply; event = r.event; made = m; work = r.work }) none
    ∙ ap (λ (w : Work). record { reply = r.reply; event = r.event; made = None; work = w }) nothing in
    subst (IsWork h room) (sym bare) (idle_so h room r.reply r.event)

-- an answer that fetches a sector that is live
pub fetches : (h : Host) (room : Room) (a : Reaction) (said : Reply) (event : Event) (slot : ℕ) → Contains (live_slots h.state) slot
    → ((bytes : List ℕ) → length bytes ≡ h.settings.sector → FitsReply said bytes) → a ≡ record { reply = said; event = Some event; made = None; work = fetching slot } → IsWork h room a
fetches h room a said event slot live fits is = subst (IsWork h room) (sym is) so
  where
    same : (other : ℕ) → Some slot ≡ Some other → slot ≡ other
    same other at = (cc)

    so : IsWork h room (record { reply = said; event = Some event; made = None; work = fetching slot })
    so = record {
      slots = refl;
      sizes = All-nil (λ (p : PutJob). length p.bytes ≡ h.settings.sector);
      passes = λ slot. refl;
      sectors = comes_itself (sectors_in h.state) [];
      quiet = λ none. (refl, refl);
      fetched = λ other at. (subst (Contains (live_slots h.state)) (same other at) live, refl, fits);
      noted = λ none. absurd (cc);
      framed = λ made at. absurd (cc);
    }

-- an answer that makes a record
pub makes : (h : Host) (room : Room) (a : Reaction) (said : Reply) (event : Event) (made : HostRecord) (work : Work) → work.fetch ≡ None
    → map (λ (p : PutJob). p.slot) work.puts ≡ take (length work.puts) room.free
    → All (λ (p : PutJob). length p.bytes ≡ h.settings.sector) work.puts
    → SlotsPass (live_slots h.state) (map (λ (p : PutJob). p.slot) work.puts) (live_slots (with_record h.settings.host_key h.state made)) work.freed
    → All (ComesFrom (sectors_in h.state) work.puts) (sectors_in (with_record h.settings.host_key h.state made))
    → framed_length made ≤ room.bytes → a ≡ record { reply = said; event = Some event; made = Some made; work = work } → IsWork h room a
makes h room a said event made work unfetched first whole pass comes framed is = subst (IsWork h room) (sym is) so
  where
    same : (other : HostRecord) → Some made ≡ Some other → made ≡ other
    same other at = (cc)

    none : (slot : ℕ) → work.fetch ≡ Some slot → ⊥
    none slot some = absurd (let both : None ≡ Some slot = sym unfetched ∙ some in cc)

    so : IsWork h room (record { reply = said; event = Some event; made = Some made; work = work })
    so = record {
      slots = first;
      sizes = whole;
      passes = pass;
      sectors = comes;
      quiet = λ nothing. absurd (cc);
      fetched = λ slot some. absurd (none slot some);
      noted = λ nothing. absurd (cc);
      framed = λ other at. subst (λ (m : HostRecord). framed_length m ≤ room.bytes) (same other at) framed;
    }

-- one whose record leaves all slots and sectors as they were
pub keeps : (h : Host) (room : Room) (a : Reaction) (said : Reply) (event : Event) (made : HostRecord)
    → SlotsPass (live_slots h.state) [] (live_slots (with_record h.settings.host_key h.state made)) []
    → All (ComesFrom (sectors_in h.state) []) (sectors_in (with_record h.settings.host_key h.state made))
    → framed_length made ≤ room.bytes → a ≡ record { reply = said; event = Some event; made = Some made; work = no_work } → IsWork h room a
keeps h room a said event made pass comes framed is =
    makes h room a said event made no_work refl refl (All-nil (λ (p : PutJob). length p.bytes ≡ h.settings.sector)) pass comes framed is
