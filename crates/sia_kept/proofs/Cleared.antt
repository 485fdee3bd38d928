-- A revision that is spelled as another is the same.
use Rattle.std.proofs.Common.{◌≡◌, ◌∙◌, ◌-◌, ◌^◌, ◌<◌, ℕ, true, List, [], ◌∷◌, ◌++◌, All, length, sym, ap, arith}
use Rattle.std.proofs.lemmas.List.{append-nil, length-replicate}
use Rattle.std.proofs.lemmas.List.Elements.{All-head, All-replicate}
use Rattle.sia_encoding.specs.Codec.{AreBytes}
use Rattle.sia_types.specs.declared.file_contracts.Revision.{Revision}
use Rattle.sia_types.specs.FileContracts.{revision, revision_law}
use Rattle.sia_forms.specs.Checks.{is_cleared, is_spelled_as}
use Rattle.sia_forms.specs.Parties.{zero_hash}
use Rattle.sia_forms.specs.Renewing.{clearing}
use Rattle.sia_kept.proofs.Apart.{same_bytes}

-- where both are of their types
pub same_revision : (one other : Revision) → revision.fits (2 ^ 64 - 1) one → revision.fits (2 ^ 64 - 1) other → is_spelled_as revision one other ≡ true → one ≡ other
same_revision one other fits others is =
    let alike : revision.spelled one ≡ revision.spelled other ++ [] = same_bytes (revision.spelled one) (revision.spelled other) is ∙ sym (append-nil (revision.spelled other)) in
    (revision_law.no_prefix (2 ^ 64 - 1) one other [] fits others alike).0

zero_bytes : (length zero_hash ≡ 32) × AreBytes zero_hash
zero_bytes = (length-replicate {A = ℕ} 32 0, All-replicate (λ byte. byte < 256) 32 0 (omega arith))

-- the revision that clears another is of its type
clearing_fits : (newest : Revision) → revision.fits (2 ^ 64 - 1) newest → revision.fits (2 ^ 64 - 1) (clearing newest)
unfolding clearing
clearing_fits newest f = (f.0, (f.1.0, (omega arith, (omega arith, (zero_bytes, (f.1.1.1.1.1.0, (f.1.1.1.1.1.1.0, (f.1.1.1.1.1.1.1.0, (f.1.1.1.1.1.1.1.0, f.1.1.1.1.1.1.1.1.1)))))))))

-- revisions that clear are the one that clears
pub cleared_alone : (newest : Revision) (revisions : List Revision) → revision.fits (2 ^ 64 - 1) newest → All (revision.fits (2 ^ 64 - 1)) revisions → is_cleared newest revisions ≡ true → revisions ≡ clearing newest ∷ []
cleared_alone newest [] fits all is = (cc)
cleared_alone newest (only ∷ []) fits all is = ap (λ r. r ∷ []) (same_revision only (clearing newest) (All-head (revision.fits (2 ^ 64 - 1)) only [] all) (clearing_fits newest fits) is)
cleared_alone newest (one ∷ two ∷ others) fits all is = (cc)
