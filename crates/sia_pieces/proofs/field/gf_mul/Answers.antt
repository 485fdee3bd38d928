use Rattle.std.proofs.Common.{sym, arith}
use Rattle.sia_pieces.proofs.FieldLaws.{product-zero, zero-product}
use Rattle.sia_pieces.proofs.Tables.{product_by_tables}
use Rattle.sia_pieces.proofs.field.gf_mul.Goals as goal
use Rattle.sia_pieces.proofs.field.gf_mul.Goals.{then-a-eq0-via-then-a-eq0, then-a-eq0-via-else-a-eq0+then-b-eq0}

pub returns-then-a-eq0 : goal.returns-then-a-eq0
returns-then-a-eq0 c =
    elim c.then-a-eq0.branch [
      | then-a-eq0-via-then-a-eq0 w ↦ rw w.if-a-eq0.true (sym (zero-product c.args.b))
      | then-a-eq0-via-else-a-eq0+then-b-eq0 w ↦ rw w.if-b-eq0.true (sym (product-zero c.args.a))
    ]

pub returns : goal.returns
returns c = product_by_tables c.args.a c.args.b (omega arith) (omega arith) (omega arith) (omega arith)
