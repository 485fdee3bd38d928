use Rattle.std.proofs.Common.{◌≡◌, ◌++◌, drop}
use Rattle.std.specs.Prelude.{string_bytes}
use Rattle.sia_program.specs.Fields.{lines_from, transaction_lines}
use Rattle.sia_program.proofs.fields.put_transactions.Given as goal

-- the lines that are written and those of the transactions that are left make all of them
abbrev pub invariant-loop-tx : goal.invariant-loop-tx
invariant-loop-tx l =
    string_bytes l.out ++ lines_from (λ index. transaction_lines) l.tx-index (drop l.tx-index l.transactions) ≡ string_bytes l.fn.out ++ lines_from (λ index. transaction_lines) 0 l.transactions
