-- The token lies within a well-formed image.
use Rattle.token_image.proofs.Within.{token_within}
use Rattle.images.proofs.Formed.token_at.Goals as goal

pub token_at-requires : goal.token_at-requires
token_at-requires c = token_within _ c.args.self.now.tokens.now c.args.self.now.formed.tokens_formed c.args.k c.requires
