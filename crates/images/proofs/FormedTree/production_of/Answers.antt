-- The node's record lies within the tree image, and that of its production within the grammar image.
use Rattle.grammar_image.proofs.Within.{production_within}
use Rattle.tree_image.proofs.Within.{node_within}
use Rattle.images.proofs.Within.{production_below, row_ends}
use Rattle.images.proofs.FormedTree.production_of.Goals as goal

pub node_at-requires : goal.node_at-requires
node_at-requires c = node_within _ c.args.self.now.tree.now c.args.self.now.formed.tree_formed c.args.n c.requires

pub production_at-requires : goal.production_at-requires
production_at-requires c =
    let formed = c.args.self.now.formed in
    rw c.node_at.ensures
    (production_within c.args.self.now.grammar.now formed.grammar_formed _ (production_below _ c.args.self.now.tree.now formed c.args.n c.requires))

pub returns-clause-production : goal.returns-clause-production
returns-clause-production c = rw c.node_at.ensures at c.production_at.ensures

pub returns-clause-row : goal.returns-clause-row
returns-clause-row c =
    row_ends c.args.self.now.grammar.now c.args.self.now.tree.now c.args.self.now.formed c.args.n c.requires
    (rw c.node_at.ensures at c.production_at.ensures)
