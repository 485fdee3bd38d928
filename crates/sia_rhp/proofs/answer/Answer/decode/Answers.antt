use Rattle.std.proofs.Common.{◌≡◌, ◌<◌, ℕ, List, Option, Some, IfSome, Result, arith, sym, ◌∙◌}
use Rattle.std.proofs.lemmas.List.Elements.{All-from_get_or}
use Rattle.sia_rhp.proofs.MessageLemmas.{is_message}
use Rattle.sia_rhp.proofs.AnswerLaws.{answer_law}
use Rattle.sia_rhp.specs.declared.answer.Answer.{Answer}
use Rattle.sia_rhp.specs.declared.label.Label.{Label}
use Rattle.sia_rhp.specs.declared.message_fault.MessageFault.{MessageFault}
use Rattle.sia_rhp.specs.Labels.{label_of}
use Rattle.sia_rhp.specs.Answers.{answer_to}
use Rattle.sia_rhp.specs.Messages.{IsMessage}
use Rattle.sia_rhp.proofs.answer.Answer.decode.Goals as goal

-- what is answered to the requests of the label that was found
found : (named : Option Label) (label : Label) (bytes : List ℕ) (limit : ℕ) (result : Result Answer MessageFault) → named ≡ Some label → IsMessage (answer_to label) bytes limit result → IfSome named (λ l. IsMessage (answer_to l) bytes limit result)
found named label bytes limit result is message = rw is message

pub returns : goal.returns
returns c =
    let text = c.args.label.now in
    found (label_of text) c.unwrap-label.result c.args.bytes.now c.args.limit c.decode_answer.result (sym c.of.ensures ∙ c.unwrap-label.ensures)
    (is_message (answer_law c.unwrap-label.result) c.args.bytes.now c.args.limit c.decode_answer.result (All-from_get_or (λ byte. byte < 256) c.args.bytes.now 0 (λ i within. omega (arith, c.type_inv.bytes i))) c.decode_answer.ensures)
