use Rattle.std.proofs.Common.{List, subst}
use Rattle.std.specs.Prelude.{IfNone, IfSome}
use Rattle.std.specs.List.{Contains}
use Rattle.scut_base.specs.Literal.{Literal}
use Rattle.watch_prop.specs.Watching.{AreFalse, IsFree, lits_of}
use Rattle.watch_prop.proofs.watches.Watches.free_place.Goals as goal

pub free_place-requires : goal.free_place-requires
free_place-requires c = λ l h. c.requires.vars l (subst (λ (ls : List Literal). Contains ls l) c.lits.ensures h)

pub returns-clause-free : goal.returns-clause-free
returns-clause-free c = subst (λ (ls : List Literal). IfSome c.free_place.result (λ k. IsFree ls (lits_of c.args.trail.now.steps) k)) c.lits.ensures c.free_place.ensures.free

pub returns-clause-none : goal.returns-clause-none
returns-clause-none c = subst (λ (ls : List Literal). IfNone c.free_place.result (AreFalse ls (lits_of c.args.trail.now.steps) 2)) c.lits.ensures c.free_place.ensures.none
