-- The bytes of images that were tested.
use Rattle.fields.specs.Images.{Images, images}
use Rattle.images.specs.declared.Formed.{Formed}

abbrev pub images_of : Formed → Images
images_of s = images s.nodes.grammar.now s.tokens.now s.nodes.tree.now
