use Rattle.std.proofs.lemmas.List.{take-append-drop}
use Rattle.sia_rhp.proofs.SendLemmas.{sent_first, sent_some, sent_all}
use Rattle.sia_rhp.proofs.frames.send.Goals as goal

pub returns-in-Err-clause-some : goal.returns-in-Err-clause-some
returns-in-Err-clause-some g c = sent_first _ _ c.args.body.now c.split_at.result.0.now c.split_at.result.1.now (rw (c.split_at.ensures.front, c.split_at.ensures.back) (take-append-drop c.min.result c.args.body.now)) c.in-Err.ensures.some

pub returns-in-Err-write_to_link-clause-some : goal.returns-in-Err-write_to_link-clause-some
returns-in-Err-write_to_link-clause-some g c = sent_some _ _ _ c.args.body.now c.split_at.result.0.now c.split_at.result.1.now (rw (c.split_at.ensures.front, c.split_at.ensures.back) (take-append-drop c.min.result c.args.body.now)) c.in-Ok.ensures.all c.in-Err-write_to_link.ensures.some

pub returns-in-Ok-write_to_link-clause-all : goal.returns-in-Ok-write_to_link-clause-all
returns-in-Ok-write_to_link-clause-all g c = sent_all _ _ _ c.args.body.now c.split_at.result.0.now c.split_at.result.1.now (rw (c.split_at.ensures.front, c.split_at.ensures.back) (take-append-drop c.min.result c.args.body.now)) c.in-Ok.ensures.all c.in-Ok-write_to_link.ensures.all
