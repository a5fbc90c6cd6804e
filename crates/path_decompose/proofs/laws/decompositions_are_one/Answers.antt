use Rattle.bit_image.specs.Page.{image_of}
use Rattle.path_decompose.proofs.Unique.{one_decomposition}
use Rattle.path_decompose.proofs.laws.decompositions_are_one.Goals as goal

pub returns : goal.returns
returns c = λ page policy paths others d e. one_decomposition page policy (image_of page) paths others d e
