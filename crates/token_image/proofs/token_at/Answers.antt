-- Each field is read at its byte.
use Rattle.std.proofs.Common.{rules}
use Rattle.token_image.specs.TokenImage.{token_at}
use Rattle.token_image.proofs.token_at.Goals as goal

pub returns : goal.returns
unfolding token_at
returns c = search rules
