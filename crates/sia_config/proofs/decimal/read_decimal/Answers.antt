use Rattle.std.proofs.Common.{sym, ◌∙◌, subst}
use Rattle.std.specs.Str.Parse.{ParsesUnsigned}
use Rattle.sia_config.proofs.Decimals.{number_no_text, number_otherwise, number_parsed}
use Rattle.sia_config.proofs.decimal.read_decimal.Goals as goal

pub returns-then-begins_otherwise : goal.returns-then-begins_otherwise
returns-then-begins_otherwise c = number_otherwise c.args.text.now (sym c.if-begins_otherwise.ensures)

pub returns-in-Err : goal.returns-in-Err
returns-in-Err c = number_no_text c.args.text.now c.in-Err.ensures.cases.0

pub returns-in-Ok : goal.returns-in-Ok
returns-in-Ok c =
    c.ok.ensures.value ∙ number_parsed c.args.text.now c.parse.result (sym c.if-begins_otherwise.ensures)
    (subst (λ text. ParsesUnsigned 128 10 text c.parse.result) c.in-Ok.ensures.cases.0 c.parse.ensures.value.0)
