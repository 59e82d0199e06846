-- The header lies within a well-formed image.
use Rattle.token_image.proofs.Within.{header_within}
use Rattle.images.proofs.Formed.token_count.Goals as goal

pub token_count-requires : goal.token_count-requires
token_count-requires c = header_within _ c.args.self.now.tokens.now c.args.self.now.formed.tokens_formed
