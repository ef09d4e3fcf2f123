-- A text begins with one line of costs at most.
use Rattle.std.proofs.Common.{◌≡◌, ℕ, List, [], ◌∷◌, ◌++◌, ℤ, refl, sym, ap, ◌∙◌}
use Rattle.std.specs.Prelude.{All, Option, None, Some}
use Rattle.std.specs.List.{flat_map}
use Rattle.std.specs.Fmt.{signed_decimal}
use Rattle.std.proofs.lemmas.List.{append_assoc, append-nil}
use Rattle.std.proofs.lemmas.List.Elements.{All-head, All-tail, All-same}
use Rattle.scut_base.proofs.Lists.{tail_same}
use Rattle.front_text.proofs.Parts.{cons_same, All-back}
use Rattle.front_set.specs.ListText.{costs_line}
use Rattle.front_text.specs.Spelling.{IsCost}
use Rattle.front_text.specs.Reading.{EndsWord, IsWord, IsValueOf, TakesCost, BeginsWithNone}
use Rattle.front_text.proofs.Words.{heads_apart, one_cut}
use Rattle.front_text.proofs.Numbers.{one_cost, cost_joins}

-- the costs, each after a space
abbrev pub cost_texts : List ℤ → List ℕ
cost_texts costs = flat_map (λ c. 32 ∷ signed_decimal c) costs

pub costs_line_is : (costs : List ℤ) (rest : List ℕ) → costs_line costs ++ rest ≡ 111 ∷ (cost_texts costs ++ 10 ∷ rest)
costs_line_is costs rest = ap (λ t. 111 ∷ t) (append_assoc (cost_texts costs) (10 ∷ []) rest)

-- where there are costs a separator follows them
abbrev pub Ended : List ℤ → List ℕ → Type 0
Ended [] rest = Unit {0}
Ended (c ∷ cs) rest = EndsWord rest

pub ended_by : (cs : List ℤ) (rest : List ℕ) → EndsWord rest → Ended cs rest
ended_by [] rest ends = tt
ended_by (c ∷ cs) rest ends = ends

texts_end : (cs : List ℤ) (rest : List ℕ) → Ended cs rest → EndsWord rest → EndsWord (cost_texts cs ++ rest)
texts_end [] rest ended ends = ends
texts_end (c ∷ cs) rest ended ends = refl

-- what follows some of the costs of a line are its other costs
pub costs_rest : (cs : List ℤ) (t : List ℕ) (ds : List ℤ) (s : List ℕ) → All IsCost cs → All IsCost ds → Ended cs t → cost_texts cs ++ t ≡ cost_texts ds ++ 10 ∷ s → (es : List ℤ) × (t ≡ cost_texts es ++ 10 ∷ s) × (ds ≡ cs ++ es)
costs_rest [] t ds s left right ended e = (ds, e, refl)
costs_rest (c ∷ cs) t [] s left right ended e = absurd (heads_apart 32 10 _ _ refl e)
costs_rest (c ∷ cs) t (d ∷ ds) s left right ended e =
    let e' : signed_decimal c ++ (cost_texts cs ++ t) ≡ signed_decimal d ++ (cost_texts ds ++ 10 ∷ s) = sym (append_assoc (signed_decimal c) (cost_texts cs) t) ∙ tail_same 32 32 _ _ e ∙ append_assoc (signed_decimal d) (cost_texts ds) (10 ∷ s) in
    let cost : IsCost c = All-head IsCost c cs left in
    let other : IsCost d = All-head IsCost d ds right in
    let cut = one_cut (signed_decimal c) (signed_decimal d) (cost_texts cs ++ t) (cost_texts ds ++ 10 ∷ s) (cost_joins c cost) (cost_joins d other) (texts_end cs t (ended_by cs t ended) ended) (texts_end ds (10 ∷ s) (ended_by ds (10 ∷ s) refl) refl) e' in
    let rest = costs_rest cs t ds s (All-tail IsCost c cs left) (All-tail IsCost d ds right) (ended_by cs t ended) cut.1 in
    (rest.0, rest.1, cons_same d c ds (cs ++ rest.0) (sym (one_cost c d cost other cut.0)) rest.2)

pub one_costs_line : (cs ds : List ℤ) (r s : List ℕ) → All IsCost cs → All IsCost ds → costs_line cs ++ r ≡ costs_line ds ++ s → (cs ≡ ds) × (r ≡ s)
one_costs_line cs ds r s left right e =
    let e' : cost_texts cs ++ 10 ∷ r ≡ cost_texts ds ++ 10 ∷ s = tail_same 111 111 _ _ (sym (costs_line_is cs r) ∙ e ∙ costs_line_is ds s) in
    let rest = costs_rest cs (10 ∷ r) ds s left right (ended_by cs (10 ∷ r) refl) e' in
    by rest.0 rest.1 rest.2
  where
    by : (es : List ℤ) → 10 ∷ r ≡ cost_texts es ++ 10 ∷ s → ds ≡ cs ++ es → (cs ≡ ds) × (r ≡ s)
    by [] is all = (sym (all ∙ append-nil cs), tail_same 10 10 r s is)
    by (x ∷ es) is all = absurd (heads_apart 10 32 _ _ refl is)

-- ---- the reader's loop

-- the costs so far, and what follows them
pub record CostsSoFar (old new : List ℕ) (costs : List ℤ) : Type 0 where
  pub is : old ≡ 111 ∷ (cost_texts costs ++ new)
  pub valid : All IsCost costs
  pub ended : Ended costs new

-- the other costs of any line of costs that begins here
pub other_costs : (old new : List ℕ) (costs : List ℤ) → CostsSoFar old new costs → (ds : List ℤ) (s : List ℕ) → All IsCost ds → old ≡ costs_line ds ++ s → (es : List ℤ) × (new ≡ cost_texts es ++ 10 ∷ s) × (ds ≡ costs ++ es)
other_costs old new costs so_far ds s right e = costs_rest costs new ds s so_far.valid right so_far.ended (tail_same 111 111 _ _ (sym so_far.is ∙ e ∙ costs_line_is ds s))

-- a word that is a cost
pub takes_cost : (old new word : List ℕ) (r : Option ℤ) → IsWord word old new → IsValueOf signed_decimal IsCost word r → TakesCost old new r
takes_cost old new word None taken none = λ c rest cost ends is. none c cost (one_cut word (signed_decimal c) new rest taken.whole (cost_joins c cost) taken.ends ends (sym taken.is ∙ is)).0
takes_cost old new word (Some c) taken value = (value.0, taken.is ∙ ap (λ w. w ++ new) value.1, taken.ends)

-- where a space but no cost follows, no line of costs begins
pub no_cost_after_space : (old here next : List ℕ) (costs : List ℤ) → CostsSoFar old here costs → here ≡ 32 ∷ next → ((c : ℤ) (rest : List ℕ) → IsCost c → EndsWord rest → next ≡ signed_decimal c ++ rest → ⊥) → BeginsWithNone costs_line (All IsCost) old
no_cost_after_space old here next costs so_far space none ds rest valid is =
    let other = other_costs old here costs so_far ds rest valid is in
    by other.0 other.1 other.2
  where
    by : (es : List ℤ) → here ≡ cost_texts es ++ 10 ∷ rest → ds ≡ costs ++ es → ⊥
    by [] follows all = heads_apart 32 10 _ _ refl (sym space ∙ follows)
    by (c ∷ es) follows all =
        let cost : IsCost c = All-head IsCost c es (All-back IsCost costs (c ∷ es) (All-same IsCost _ _ (sym all) valid)) in
        none c (cost_texts es ++ 10 ∷ rest) cost (texts_end es (10 ∷ rest) (ended_by es (10 ∷ rest) refl) refl) (tail_same 32 32 _ _ (sym space ∙ follows) ∙ append_assoc (signed_decimal c) (cost_texts es) (10 ∷ rest))

-- where neither a space nor a line feed follows, no line of costs begins
pub no_end_of_costs : (old here : List ℕ) (costs : List ℤ) → CostsSoFar old here costs → ((rest : List ℕ) → here ≡ 32 ∷ rest → ⊥) → ((rest : List ℕ) → here ≡ 10 ∷ rest → ⊥) → BeginsWithNone costs_line (All IsCost) old
no_end_of_costs old here costs so_far no_space no_newline ds rest valid is =
    let other = other_costs old here costs so_far ds rest valid is in
    by other.0 other.1
  where
    by : (es : List ℤ) → here ≡ cost_texts es ++ 10 ∷ rest → ⊥
    by [] follows = no_newline rest follows
    by (c ∷ es) follows = no_space _ follows
