-- A model of the bounded problem is one more that serves the vector, and where there is none all are listed.
use Rattle.representatives.specs.Laws.{AreGiven}
use Rattle.representative_search.proofs.FurtherModels.{searches_further}
use Rattle.representative_search.proofs.gathering.next_model.Goals as goal

pub returns : goal.returns
returns g c =
    let world = g.H.Shelf.world in
    let a = c.args in
    let given : AreGiven a.inst.now a.problem.now a.vec.now a.list.now = record { limits = c.vars-vars.ensures.limits; normal = c.requires.normal; vector = c.requires.vector; few = c.requires.few; long = c.requires.long } in
    searches_further a.name.now a.inst.now a.problem.now c.in_ok-bounded.bounded a.vec.now a.list.now c.in_ok-bounded.ensures (world a.shelf.now) (world c.cut_model.new.shelf)
    c.bounded_model_serves.ensures c.ended_log_lists_all.ensures given c.cut_model.result (rw c.vars-vars.ensures.value at c.cut_model.ensures)
