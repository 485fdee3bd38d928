use Rattle.std.proofs.Common.{length, ap, ◌∙◌}
use Rattle.sia_merkle.proofs.Fours.{texts_of}
use Rattle.sia_merkle.proofs.groups.text_of_nodes.Goals as goal

pub returns : goal.returns
returns c =
    texts_of c.args.left.now c.args.right.now c.put_node.new.text c.put_node-2.new.text c.put_node-3.new.text c.put_node-4.new.text c.requires.left c.requires.right
    (ap length c.put_node.ensures.parts ∙ c.put_node.ensures.size) (ap length c.put_node-2.ensures.parts ∙ c.put_node-2.ensures.size)
    (ap length c.put_node-3.ensures.parts ∙ c.put_node-3.ensures.size) (ap length c.put_node-4.ensures.parts ∙ c.put_node-4.ensures.size)
    c.put_node.ensures.parts c.put_node-2.ensures.parts c.put_node-3.ensures.parts c.put_node-4.ensures.parts
