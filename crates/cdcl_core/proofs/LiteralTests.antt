-- A test of two literals.
use Rattle.std.proofs.Common.{◌≡◌, ◌==◌, ◌&&◌, ℕ, Bool, true, false, refl, ap, ap₂, ◌∙◌, subst}
use Rattle.std.specs.Bool.{Decides}
use Rattle.std.specs.Cmp.{booleans_Decides, unsigned_Decides}
use Rattle.std.specs.Ordering.{on, eq_of_both}
use Rattle.std.proofs.Math.Bool.{beq}
use Rattle.scut_base.specs.Literal.{Literal}

both : (p q : Bool) → p && q ≡ true → (p ≡ true) × (q ≡ true)
both true q e = (refl, e)
both false q e = cc

-- `==` says of two literals whether they are the same
pub literal_decides : (l m : Literal) → Decides (eq_of_both (on (λ (x : Literal). x.var) ◌==◌) (on (λ (x : Literal). x.neg) beq) l m) (l ≡ m)
literal_decides l m = (
  (λ test. let parts = both (l.var == m.var) (beq l.neg m.neg) test in
      ap₂ (λ (n : ℕ) (b : Bool). let r : Literal = record { var = n; neg = b } in r) ((unsigned_Decides l.var m.var).0 parts.0) ((booleans_Decides l.neg m.neg).0 parts.1)),
  (λ same. subst (λ (x : Literal). (l.var == x.var) && beq l.neg x.neg ≡ true) same
      (ap₂ (λ (p q : Bool). p && q) ((unsigned_Decides l.var l.var).1 refl) ((booleans_Decides l.neg l.neg).1 refl))),
)
