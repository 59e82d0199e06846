-- The tokens of an image: how many they are, and which one is the k-th.
use Rattle.std.proofs.Common.{◌≡◌, ap, ◌∙◌, List, ℕ, ◌<◌, zero-add, length, get_or}
use Rattle.rules.specs.Grammar.{Token}
use Rattle.token_image.specs.TokenImage.{token_count, token_at, tokens_of}
use Rattle.fields.proofs.Lists.{length_list, get_d_list}

pub length_tokens : (image : List ℕ) → length (tokens_of image) ≡ token_count image
unfolding tokens_of
length_tokens image = length_list 0 (token_count image) (token_at image)

pub token_of : (image : List ℕ) (k : ℕ) (d : Token) → k < token_count image → get_or (tokens_of image) k d ≡ token_at image k
unfolding tokens_of
token_of image k d h = get_d_list 0 (token_count image) k (token_at image) d h ∙ ap (token_at image) (zero-add k)
