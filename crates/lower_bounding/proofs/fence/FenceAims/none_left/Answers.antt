-- The numbers that stand in the way rise.
use Rattle.std.proofs.Common.{◌<◌, length, ap, sym, subst, ◌∙◌}
use Rattle.lower_bounding.specs.Fences.{FenceValue, Serves, own_number, room}
use Rattle.lower_bounding.specs.Raising.{CanRaise, IsRaised}
use Rattle.lower_bounding.proofs.Raised.{raised_falls, raised_serves, raises, rows_length, tops_length}
use Rattle.lower_bounding.proofs.fence.FenceAims.none_left.Goals as goal

pub raised-requires-clause-bounds : goal.raised-requires-clause-bounds
raised-requires-clause-bounds c =
    let m = c.requires.told.0 in
    c.requires.told.3
    ∙ sym (rows_length c.args.self.now m.problem c.requires.told.1)
    ∙ sym (ap (λ (v : FenceValue). length v.fence) c.self.view_is)

pub raised-requires-clause-tops : goal.raised-requires-clause-tops
raised-requires-clause-tops c =
    let m = c.requires.told.0 in
    ap (λ (v : FenceValue). length v.tops) c.self.view_is
    ∙ tops_length c.args.self.now m.problem c.requires.told.1
    ∙ sym (ap (λ (v : FenceValue). length v.fence) c.self.view_is)

pub raised-requires-clause-can : goal.raised-requires-clause-can
raised-requires-clause-can c =
    subst (λ (v : FenceValue). CanRaise v.fence v.tops c.args.stands.now) (sym c.self.view_is) c.requires.told.2.1

pub returns-clause-moved : goal.returns-clause-moved
returns-clause-moved c =
    let now = c.in_ok-self-inside.field-0 in
    let stands = c.args.stands.now in
    let s : FenceValue = record { fence = c.self.inside.fence; tops = c.self.inside.tops } in
    let is : IsRaised s.fence s.tops stands now = c.in_ok-self-inside.ensures in
    let was = c.args.self.now in
    let risen : IsRaised was.fence was.tops stands now =
    subst (λ (v : FenceValue). IsRaised v.fence v.tops stands now) c.self.view_is is in
    λ a m serves tells.
    let here : Serves s m.problem = subst (λ (v : FenceValue). Serves v m.problem) (sym c.self.view_is) serves in
    let can : CanRaise s.fence s.tops stands =
    subst (λ (v : FenceValue). CanRaise v.fence v.tops stands) (sym c.self.view_is) tells.1 in (
      subst (λ (v : FenceValue). room now s.tops < own_number v) c.self.view_is
          (raised_falls s m.problem here stands can now is),
      raises was m.problem serves stands tells.1 now risen m tells.0,
      raised_serves s m.problem here stands can now is,
    )
