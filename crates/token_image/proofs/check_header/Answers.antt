-- The header is one with a count.
use Rattle.std.proofs.Common.{rules}
use Rattle.token_image.proofs.Within.{header_lem}
use Rattle.token_image.proofs.check_header.Goals as goal

pub returns : goal.returns
returns c = search (rules, header_lem)
