-- Each is a lemma.
use Rattle.std.proofs.Common.{get_or, sym, ◌∙◌}
use Rattle.bit_image.specs.Page.{image_of}
use Rattle.boundary_edges.specs.Inside.{inside}
use Rattle.path_decompose.proofs.Counted.{areas_on_page, black_count-past}
use Rattle.path_decompose.proofs.PathOn.{page_paths_on}
use Rattle.path_decompose.proofs.Sums.{even_odd, edges_once}
use Rattle.path_decompose.proofs.laws.decompositions_come_to_the_page.Goals as goal

pub returns-clause-closed : goal.returns-clause-closed
returns-clause-closed c = λ page policy paths is_page d k path short.
    (page_paths_on page policy paths is_page d k path short).closed

pub returns-clause-corners : goal.returns-clause-corners
returns-clause-corners c = λ page policy paths is_page d k path short.
    (page_paths_on page policy paths is_page d k path short).on_page

pub returns-clause-starts : goal.returns-clause-starts
returns-clause-starts c = λ page policy paths is_page d k path short.
    (page_paths_on page policy paths is_page d k path short).starts_above

pub returns-clause-insides : goal.returns-clause-insides
returns-clause-insides c = λ page policy paths is_page d k path short.
    (page_paths_on page policy paths is_page d k path short).inside_on_page

pub returns-clause-areas : goal.returns-clause-areas
returns-clause-areas c = λ page policy paths width height is_page d wide high k path short.
    areas_on_page page policy (image_of page) paths d k path short
    ∙ sym (black_count-past (inside (get_or paths k path).points) page.width page.height width height
    (page_paths_on page policy paths is_page d k path short).inside_on_page wide high)

pub returns-clause-even_odd : goal.returns-clause-even_odd
returns-clause-even_odd c = λ page policy paths d. even_odd page policy (image_of page) paths d

pub returns-clause-edges_once : goal.returns-clause-edges_once
returns-clause-edges_once c = λ page policy paths d. edges_once page policy (image_of page) paths d
