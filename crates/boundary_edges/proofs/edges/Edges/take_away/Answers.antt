-- A path's corners have room, and without its edges the words are those of the image inverted inside it.
use Rattle.boundary_edges.proofs.Taken.{rooms, left_page}
use Rattle.boundary_edges.proofs.edges.Edges.take_away.Goals as goal

pub take_path-requires-clause-room : goal.take_path-requires-clause-room
take_path-requires-clause-room c =
    let a = c.self.inside in
    rooms a.width a.height a.rows a.strips a.words c.args.self.now c.args.points.now c.self.invariant c.self.view_is c.requires.corners

pub invariant_of-self : goal.invariant_of-self
invariant_of-self c =
    let a = c.self.inside in
    (left_page a.width a.height a.rows a.strips a.words c.take_path.new.words c.args.self.now c.args.points.now c.self.invariant c.self.view_is c.take_path.ensures.length c.requires.fits c.requires.once c.requires.edges c.take_path.ensures.edges).0

pub returns-clause-pixels : goal.returns-clause-pixels
returns-clause-pixels c =
    let a = c.self.inside in
    (left_page a.width a.height a.rows a.strips a.words c.take_path.new.words c.args.self.now c.args.points.now c.self.invariant c.self.view_is c.take_path.ensures.length c.requires.fits c.requires.once c.requires.edges c.take_path.ensures.edges).2
