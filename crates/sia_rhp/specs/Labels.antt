-- The labels of requests (RHP2's specifiers; siad's modules/negotiate.go): a name, filled with zero bytes to 16.
use Rattle.std.specs.Prelude.{List, [], ◌∷◌, find, codes, bytes_eq, Option, ℕ}
use Rattle.sia_encoding.specs.Spelling.{label as filled}
use Rattle.sia_encoding.specs.Codec.{Codec}
use Rattle.sia_encoding.specs.Items.{fixed}
use Rattle.sia_encoding.specs.Records.{named}
use Rattle.sia_rhp.specs.declared.label.Label.{Label}
use Rattle.sia_rhp.specs.declared.label.Label.TheVariants as label

-- the text of a label
abbrev pub label_text : Label → List ℕ
label_text label.Settings = filled (codes "settings")
label_text label.FormContract = filled (codes "form contract")
label_text label.FormSign = filled (codes "form sign")
label_text label.Lock = filled (codes "lock")
label_text label.Unlock = filled (codes "unlock")
label_text label.Write = filled (codes "write")
label_text label.WriteSign = filled (codes "write sign")
label_text label.Read = filled (codes "read")
label_text label.Roots = filled (codes "sector roots")
label_text label.Renew = filled (codes "renew and clear")
label_text label.RenewSign = filled (codes "renew sign")
label_text label.LoopExit = filled (codes "loop exit")

-- every label
abbrev pub every_label : List Label
every_label = label.Settings ∷ label.FormContract ∷ label.FormSign ∷ label.Lock ∷ label.Unlock ∷ label.Write ∷ label.WriteSign ∷ label.Read ∷ label.Roots ∷ label.Renew ∷ label.RenewSign ∷ label.LoopExit ∷ []

-- the label that has this text, if one has
abbrev pub label_of : List ℕ → Option Label
label_of text = find (λ l. bytes_eq (label_text l) text) every_label

-- a label, by its text
abbrev pub labels : Codec Label
labels = named (fixed 16) label_text label_of
