-- The nodes of an image: how many they are, and which one is the n-th.
use Rattle.std.proofs.Common.{◌≡◌, ap, ◌∙◌, List, ℕ, ◌<◌, zero-add, length, get_or}
use Rattle.tree_image.specs.TreeImage.{node_count, node_at, nodes_of}
use Rattle.fields.proofs.Lists.{length_list, get_d_list}

pub length_nodes : (image : List ℕ) → length (nodes_of image) ≡ node_count image
unfolding nodes_of
length_nodes image = length_list 0 (node_count image) (node_at image)

pub node_of : (image : List ℕ) (n : ℕ) → n < node_count image → get_or (nodes_of image) n 0 ≡ node_at image n
unfolding nodes_of
node_of image n h = get_d_list 0 (node_count image) n (node_at image) 0 h ∙ ap (node_at image) (zero-add n)
