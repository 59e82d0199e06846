-- The entry lies within a well-formed image.
use Rattle.grammar_image.proofs.Within.{entry_within}
use Rattle.images.proofs.FormedTree.symbol_at.Goals as goal

pub symbol_at-requires : goal.symbol_at-requires
symbol_at-requires c = entry_within c.args.self.now.grammar.now c.args.self.now.formed.grammar_formed c.args.y c.requires
