-- Labels and their texts find each other. No public clause speaks of these lemmas but by the law of labels; they stand here since
-- the laws of requests are made of them.
use Rattle.std.proofs.Common.{◌≡◌, ℕ, List, bytes_eq, Some, refl}
use Rattle.std.proofs.lemmas.Slice.Eq.{bytes_eq-Decides}
use Rattle.sia_encoding.specs.Codec.{Lawful}
use Rattle.sia_encoding.specs.CodecLaws.{fixed_law}
use Rattle.sia_encoding.specs.RecordLaws.{found_passes, named_law}
use Rattle.sia_rhp.specs.declared.label.Label.{Label}
use Rattle.sia_rhp.specs.declared.label.Label.TheVariants as label
use Rattle.sia_rhp.specs.Labels.{label_text, label_of, every_label, labels}

-- the text of a label finds it
pub label_found : (l : Label) → label_of (label_text l) ≡ Some l
label_found label.Settings = refl
label_found label.FormContract = refl
label_found label.FormSign = refl
label_found label.Lock = refl
label_found label.Unlock = refl
label_found label.Write = refl
label_found label.WriteSign = refl
label_found label.Read = refl
label_found label.Roots = refl
label_found label.Renew = refl
label_found label.RenewSign = refl
label_found label.LoopExit = refl

-- a label that is found has the text
pub label_named : (text : List ℕ) (l : Label) → label_of text ≡ Some l → label_text l ≡ text
label_named text l is =
    (bytes_eq-Decides (label_text l) text).0 (found_passes (λ k. bytes_eq (label_text k) text) every_label l is)

-- what is read as a label is spelled so, and what is spelled so is read
pub labels_law : Lawful labels
labels_law = named_law label_text label_of label_found label_named (fixed_law 16)
