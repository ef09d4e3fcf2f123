use Rattle.std.proofs.Common.{◌≡◌, ◌+◌, ◌-◌, ℕ, List, length, drop, subst, sym, ap, ◌∙◌}
use Rattle.proof_text.specs.LogText.{IsOneLine}
use Rattle.proof_text.specs.Cutting.{IsLineOf, IsSearched}
use Rattle.proof_text.proofs.Searched.{tail_is, found_line, found_searched, found_none, all_searched}
use Rattle.proof_text.proofs.pending.Pending.line_len.Goals as goal

pub invariant_of-self : goal.invariant_of-self
invariant_of-self c =
    let s = c.self.inside in
    let found : IsLineOf (drop (s.at + s.searched) s.bytes.items) c.in-Some.more = subst (λ (t : List ℕ). IsLineOf t c.in-Some.more) (tail_is _ _ _ c.deref.ensures.value) c.in-Some.ensures in
    found_searched s.bytes.items s.at s.searched c.self.invariant c.in-Some.more found

pub invariant_of-self-in-None : goal.invariant_of-self-in-None
invariant_of-self-in-None c =
    let s = c.self.inside in
    let none : IsOneLine (drop (s.at + s.searched) s.bytes.items) = subst (λ (t : List ℕ). IsOneLine t) (tail_is _ _ _ c.deref.ensures.value) c.in-None.ensures in
    let len : length s.bytes.items ≡ c.len.result = ap length (sym c.deref.ensures.value) ∙ c.deref.ensures.len ∙ sym c.len.ensures in
    subst (λ (n : ℕ). IsSearched s.bytes.items s.at (n - s.at)) len (all_searched s.bytes.items s.at s.searched c.self.invariant none)

pub returns-in-Some-clause-len : goal.returns-in-Some-clause-len
returns-in-Some-clause-len c =
    let s = c.self.inside in
    let found : IsLineOf (drop (s.at + s.searched) s.bytes.items) c.in-Some.more = subst (λ (t : List ℕ). IsLineOf t c.in-Some.more) (tail_is _ _ _ c.deref.ensures.value) c.in-Some.ensures in
    rw (← c.self.view_is) (found_line s.bytes.items s.at s.searched c.self.invariant c.in-Some.more found)

pub returns-in-None-clause-len : goal.returns-in-None-clause-len
returns-in-None-clause-len c =
    let s = c.self.inside in
    let none : IsOneLine (drop (s.at + s.searched) s.bytes.items) = subst (λ (t : List ℕ). IsOneLine t) (tail_is _ _ _ c.deref.ensures.value) c.in-None.ensures in
    rw (← c.self.view_is) (found_none s.bytes.items s.at s.searched c.self.invariant none)
