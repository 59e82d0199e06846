-- The header lies within a well-formed image.
use Rattle.tree_image.proofs.Within.{header_within}
use Rattle.images.proofs.FormedTree.node_count.Goals as goal

pub node_count-requires : goal.node_count-requires
node_count-requires c = header_within _ c.args.self.now.tree.now c.args.self.now.formed.tree_formed
