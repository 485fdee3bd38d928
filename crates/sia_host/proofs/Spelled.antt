-- Values that are spelled alike are one.
use Rattle.std.proofs.Common.{◌≡◌, ◌∙◌, ◌-◌, ◌^◌, ℕ, Bool, true, List, [], ◌∷◌, All, Result, Ok, Err, IfOk, sym}
use Rattle.std.proofs.lemmas.List.{append-nil}
use Rattle.sia_encoding.specs.Codec.{Codec, Lawful}
use Rattle.sia_types.specs.FileContracts.{revision}
use Rattle.sia_types.specs.declared.file_contracts.Revision.{Revision}
use Rattle.sia_forms.specs.Checks.{is_cleared, is_spelled_as}
use Rattle.sia_forms.specs.Renewing.{clearing}
use Rattle.sia_kept.proofs.Cleared.{cleared_alone, same_revision}

-- where both are of their type
pub same_spelling : {A : Type 0} {c : Codec A} → Lawful c → (limit : ℕ) (one other : A) → c.fits limit one → c.fits limit other → c.spelled one ≡ c.spelled other → one ≡ other
same_spelling {A} {c} law limit one other fits others same = (law.no_prefix limit one other [] fits others (same ∙ sym (append-nil (c.spelled other)))).0

-- two revisions
pub revision_same : {E : Type 0} (result : Result Bool E) (one other : Revision) → revision.fits (2 ^ 64 - 1) one → revision.fits (2 ^ 64 - 1) other
    → IfOk result (λ same. same ≡ is_spelled_as revision one other) → IfOk result (λ same. same ≡ true → one ≡ other)
revision_same (Ok same) one other fits others is = (λ yes. same_revision one other fits others (sym is ∙ yes))
revision_same (Err e) one other fits others is = tt

-- revisions that clear are the one that clears
pub clears_one : {E : Type 0} (result : Result Bool E) (newest : Revision) (revisions : List Revision) → revision.fits (2 ^ 64 - 1) newest → All (revision.fits (2 ^ 64 - 1)) revisions
    → IfOk result (λ cleared. cleared ≡ is_cleared newest revisions) → IfOk result (λ cleared. cleared ≡ true → revisions ≡ clearing newest ∷ [])
clears_one (Ok cleared) newest revisions fits all is = (λ yes. cleared_alone newest revisions fits all (sym is ∙ yes))
clears_one (Err e) newest revisions fits all is = tt
