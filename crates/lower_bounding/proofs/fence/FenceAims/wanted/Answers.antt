-- What keeps to the limits keeps to the fence, and the other way round.
use Rattle.std.proofs.Common.{length, ap, sym, subst, ◌∙◌}
use Rattle.lower_bounding.specs.Fences.{FenceValue}
use Rattle.lower_bounding.specs.Raising.{AreLimits}
use Rattle.lower_bounding.proofs.Raised.{rows_length, told, tops_length}
use Rattle.lower_bounding.proofs.fence.FenceAims.wanted.Goals as goal

pub limits-requires : goal.limits-requires
limits-requires c =
    ap (λ (v : FenceValue). length v.tops) c.self.view_is
    ∙ tops_length c.args.self.now c.requires.serves.0 c.requires.serves.1
    ∙ sym (ap (λ (v : FenceValue). length v.fence) c.self.view_is)

pub returns-clause-of : goal.returns-clause-of
returns-clause-of c = λ p serves.
    c.in_ok-limits.ensures.count
    ∙ ap (λ (v : FenceValue). length v.fence) c.self.view_is
    ∙ rows_length c.args.self.now p serves

pub returns-clause-tells : goal.returns-clause-tells
returns-clause-tells c = λ b below serves rows tells.
    let s = c.args.self.now in
    let limits = c.in_ok-limits.limits in
    let are : AreLimits s.fence s.tops limits =
    subst (λ (v : FenceValue). AreLimits v.fence v.tops limits) c.self.view_is c.in_ok-limits.ensures in
    told b s limits serves are below tells
