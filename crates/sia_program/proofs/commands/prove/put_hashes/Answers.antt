use Rattle.std.proofs.Common.{◌∙◌, ap}
use Rattle.std.specs.Prelude.{codes, string_bytes}
use Rattle.sia_program.specs.Lines.{line}
use Rattle.sia_program.proofs.HashLines.{lines_more, lines_over}
use Rattle.sia_program.proofs.commands.prove.put_hashes.Goals as goal

pub loop-hash-preserved : goal.loop-hash-preserved
loop-hash-preserved c =
    let text = ap (line (codes "hash")) (c.as_str.ensures.value ∙ c.in_ok-text.ensures) in
    rw c.in_ok-put_text.ensures (lines_more (string_bytes c.loop-hash.out) _ c.args.hashes.now c.loop-hash.hash-index c.loop-hash-test.true text ∙ c.loop-hash.invariant)

pub returns : goal.returns
returns c = lines_over (string_bytes c.loop-hash.out) _ c.args.hashes.now c.loop-hash.hash-index c.loop-hash-test.false c.loop-hash.invariant
