-- The line by which outputs imply another: it is legal, and makes a clause that says so.
use Rattle.std.proofs.Common.{◌≡◌, ◌≢◌, ℕ, ◌+◌, ◌-◌, ◌<◌, ◌≤◌, ◌==◌, Bool, true, false, not, if◌then◌else◌, None, List, [], ◌∷◌, ◌++◌, get_or, refl, ap, arith, Ok, pos}
use Rattle.std.specs.Prelude.{◌^◌, nat_lt}
use Rattle.std.specs.List.{All}
use Rattle.std.proofs.lemmas.Bool.{ne_eqb}
use Rattle.std.proofs.lemmas.Int.{ints}
use Rattle.std.proofs.lemmas.List.Elements.{All-nil, All-cons, All-head, All-tail, All-append, All-map, All-weaker}
use Rattle.std.proofs.lemmas.List.Quantifiers.{all_pairs_push}
use Rattle.std.proofs.lemmas.List.Sums.{sum_by-cons, sum_by-append}
use Rattle.std.proofs.lemmas.List.Folds.{list_any_none}
use Rattle.scut_base.specs.Literal.{Literal}
use Rattle.scut_base.specs.Assignment.{lit_true, value_of}
use Rattle.pb_lin.specs.Constraint.{ConstraintValue, Holds, opposite, size, term_value, total, value}
use Rattle.pb_lin.proofs.Ones.{AllPairs-map}
use Rattle.cutting_planes.specs.Stack.{IsValueOn}
use Rattle.cutting_planes.specs.declared.token.PolToken.{PolToken}
use Rattle.cutting_planes.specs.declared.token.PolToken.TheVariants.{Id, Add, Div, Saturate, Weaken}
use Rattle.cutting_planes.proofs.Terms.{Terms}
use Rattle.proof_laws.specs.State.{StateValue, IsState}
use Rattle.proof_laws.specs.Steps.{reached_only_if}
use Rattle.proof_laws.specs.WellFormed.{AreTokens, IsToken}
use Rattle.proof_laws.specs.Refusal.{given_in, is_clause, token_variables}
use Rattle.proof_laws.specs.declared.line.Line.TheVariants.{Pol}
use Rattle.proof_laws.proofs.Replays.{replay_once}
use Rattle.proof_rules.specs.Recording.{Snapshot, MayBeAdded}
use Rattle.sum_outputs.specs.Adding.{IsReached, IsReady, Always}
use Rattle.sum_outputs.specs.ClauseTokens.{added, summed, weakens, cuts, named, clause_tokens}
use Rattle.sum_outputs.specs.Outputs.{AreLiteralsOf, sums, CanImply, Imply}
use Rattle.sum_outputs.specs.declared.sum_output.SumOutput.{SumOutput}
use Rattle.sum_outputs.proofs.Glue.{AreApart, apart_from_rising, bound, bound_within, none_true}
use Rattle.sum_outputs.proofs.PolLines.{id_small, pol_leaves, pol_may_be_added_law}
use Rattle.sum_outputs.proofs.Chains.{AreLines, is_of, MakesClause, has_clause}
use Rattle.sum_outputs.proofs.TokenLists.{lowers_of}
use Rattle.sum_outputs.proofs.PartLines.{againsts, PartLines, part_lines, missing, upper_value, upper_total}

-- ---- the clause

literal_or_opposite : (x : List Bool) (l : Literal) (k : ℕ) → lit_true x l ≡ true → term_value x (opposite l, k) ≡ 0
literal_or_opposite x l k is = by l.neg (value_of x l.var) is
  where
    by : (neg b : Bool) → (if neg then not b else b) ≡ true → (if (if not neg then not b else b) then k else 0) ≡ 0
    by true true e = cc
    by true false e = refl
    by false true e = refl
    by false false e = cc

againsts_none : (x : List Bool) (parts : List SumOutput) → All (λ o. lit_true x o.lit ≡ true) parts → value x (againsts parts) ≡ 0
againsts_none x [] all = refl
againsts_none x (o ∷ parts) all =
    let cons = sum_by-cons (term_value x) (opposite o.lit, o.sum) (againsts parts) in
    let here = literal_or_opposite x o.lit o.sum (All-head (λ q. lit_true x q.lit ≡ true) o parts all) in
    let rest = againsts_none x parts (All-tail (λ q. lit_true x q.lit ≡ true) o parts all) in
    omega arith

not_of : (v : ℕ) (ws : Terms) → All (λ t. v ≢ t.0.var) ws → is_of ws v ≡ false
not_of v ws all = list_any_none (λ w. v == w.0.var) ws (λ k d short. ne_eqb v (get_or ws k d).0.var (all k d short))

module _ (a : Snapshot) (s : StateValue) (state : IsState s) (parts : List SumOutput) (weak : Terms) (target : SumOutput) (can : CanImply a s parts weak target) where
  lines : (lowers : List ConstraintValue) × (leaves : ℕ) × PartLines s can.lists parts lowers leaves
  lines = part_lines a s state can.lists parts can.known

  abbrev last : Literal × ℕ
  last = (target.lit, missing a s can.node target can.defined)

  abbrev terms : Terms
  terms = againsts parts ++ last ∷ []

  abbrev upper : ConstraintValue
  upper = reached_only_if target.lit.var can.defined.sum

  target_most : target.sum ≤ total can.node
  target_most = let r = can.reaches in let m = lines.2.most in let w = can.whole in omega arith

  terms_apart : AreApart terms
  terms_apart = all_pairs_push (λ t u. t.0.var ≢ u.0.var) (againsts parts) last
      (AllPairs-map (λ t u. t.0.var ≢ u.0.var) (λ o. (opposite o.lit, o.sum)) (λ t. target) parts can.apart)
      (All-map (λ t. t.0.var ≢ target.lit.var) (λ o. (opposite o.lit, o.sum)) parts can.other)

  variables : (lists : List Terms) (os : List SumOutput) → AreLiteralsOf a s lists os → All (λ o. 0 < o.lit.var) os
  variables [] [] are = All-nil (λ o. 0 < o.lit.var)
  variables [] (o ∷ os) are = absurd are
  variables (ts ∷ ls) [] are = absurd are
  variables (ts ∷ ls) (o ∷ os) are = All-cons (λ q. 0 < q.lit.var) o os (let v = are.0.variable in v.0) (variables ls os are.1)

  makes : MakesClause (given_in s None None) (named (lowers_of parts)) lines.0 target.upper upper weak terms lines.1 (total can.node) ((sums parts + 1) - target.sum)
  makes =
      let rest = lines.2 in
      let n = bound can.defined.sum.terms in
      let none = none_true n can.defined.sum.terms (apart_from_rising can.defined.sum.terms can.defined.normal.merged.rising) (bound_within can.defined.sum.terms can.defined.normal.merged.from_one) in
      let most = target_most in
      let whole = can.whole in
      let some = can.some in
      let reaches = can.reaches in
      let sums_most = rest.most in
      let small = can.small in
      record {
        lines = rest.lines;
        live = can.defined.upper.0;
        normal = state.normal target.upper upper can.defined.upper.0;
        small =
            let all = sum_by-append (λ (c : ConstraintValue). size c) lines.0 (upper ∷ []) in
            let one = sum_by-cons (λ (c : ConstraintValue). size c) upper [] in
            let up = upper_total a s can.node target can.defined most in
            let d : upper.degree ≡ missing a s can.node target can.defined = let e = can.defined.degree in let w = can.defined.whole in omega arith in
            let few = rest.small in
            omega arith;
        same = λ x.
            let parts_same = rest.same x in
            let up = upper_value a s can.node target can.defined x most in
            let node = can.same x in
            let all = sum_by-append (term_value x) (againsts parts) (last ∷ []) in
            let one = sum_by-cons (term_value x) last [] in
            omega arith;
        degrees =
            let d : upper.degree ≡ missing a s can.node target can.defined = let e = can.defined.degree in let w = can.defined.whole in omega arith in
            let below = rest.degrees in
            omega arith;
        from_one = omega arith;
        fits = omega arith;
        none =
            let zero_sum = none.1 in
            let same = can.defined.same none.0 in
            let node = can.same none.0 in
            (none.0, rest.low none.0 (omega arith), omega arith);
        terms_apart = terms_apart;
        terms_from_one = All-append (λ t. 0 < t.0.var) (againsts parts) (last ∷ []) (All-map (λ t. 0 < t.0.var) (λ o. (opposite o.lit, o.sum)) parts (variables can.lists parts can.known))
            (All-cons (λ t. 0 < t.0.var) last [] (let v = can.variable in v.0) (All-nil (λ t. 0 < t.0.var)));
        weak_from_one = λ k d short. let v = can.variables k d short in v.0;
        outside = All-append (λ t. is_of weak t.0.var ≡ false) (againsts parts) (last ∷ [])
            (All-map (λ t. is_of weak t.0.var ≡ false) (λ o. (opposite o.lit, o.sum)) parts (λ k d short. not_of (get_or parts k d).lit.var weak (can.outside k d short)))
            (All-cons (λ t. is_of weak t.0.var ≡ false) last [] (not_of target.lit.var weak can.target_outside) (All-nil (λ t. is_of weak t.0.var ≡ false)));
      }

  -- the tokens make a clause that says so
  pub imply_clause : (c : ConstraintValue) × IsValueOn (given_in s None None) [] (clause_tokens (lowers_of parts) target.upper weak ((sums parts + 1) - target.sum)) (Ok c) × (is_clause c ≡ true) × ((x : List Bool) → Holds x c → Imply parts target x)
  imply_clause =
      let made = has_clause (given_in s None None) (named (lowers_of parts)) lines.0 target.upper upper weak terms lines.1 (total can.node) ((sums parts + 1) - target.sum) makes in
      (made.0, made.1, made.2, λ x holds all. by x all (made.3 x holds) (lit_true x target.lit) refl)
    where
      by : (x : List Bool) → All (λ o. lit_true x o.lit ≡ true) parts → (value x terms ≡ 0 → ⊥) → (b : Bool) → lit_true x target.lit ≡ b → lit_true x target.lit ≡ true
      by x all not_zero true is = is
      by x all not_zero false is = absurd (not_zero (
          let whole = sum_by-append (term_value x) (againsts parts) (last ∷ []) in
          let one = sum_by-cons (term_value x) last [] in
          let none = againsts_none x parts all in
          let false_here : term_value x last ≡ 0 = ap (λ (b : Bool). if b then last.1 else 0) is in
          omega arith))

-- ---- lines by cutting planes

ids_small : (s : StateValue) → IsState s → (ids : List ℕ) (cs : List ConstraintValue) → AreLines (given_in s None None) ids cs → All (λ id. id < 2 ^ 63) ids
ids_small s state [] cs are = All-nil (λ id. id < 2 ^ 63)
ids_small s state (id ∷ ids) [] are = absurd are
ids_small s state (id ∷ ids) (c ∷ cs) are = All-cons (λ i. i < 2 ^ 63) id ids (id_small s state id c are.0) (ids_small s state ids cs are.2)

-- a token that a text can spell, of no variable above n
abbrev IsPlain : ℕ → PolToken → Type 0
IsPlain n t = IsToken t × All (λ v. v ≤ n) (token_variables t)

added_plain : (n : ℕ) (ids : List ℕ) → All (λ id. id < 2 ^ 63) ids → All (IsPlain n) (added ids)
added_plain n [] small = All-nil (IsPlain n)
added_plain n (id ∷ ids) small = All-cons (IsPlain n) (Id id) (Add ∷ added ids) (All-head (λ i. i < 2 ^ 63) id ids small, All-nil (λ v. v ≤ n))
    (All-cons (IsPlain n) Add (added ids) (tt, All-nil (λ v. v ≤ n)) (added_plain n ids (All-tail (λ i. i < 2 ^ 63) id ids small)))

summed_plain : (n : ℕ) (ids : List ℕ) → All (λ id. id < 2 ^ 63) ids → All (IsPlain n) (summed ids)
summed_plain n [] small = All-nil (IsPlain n)
summed_plain n (id ∷ ids) small = All-cons (IsPlain n) (Id id) (added ids) (All-head (λ i. i < 2 ^ 63) id ids small, All-nil (λ v. v ≤ n)) (added_plain n ids (All-tail (λ i. i < 2 ^ 63) id ids small))

weakens_plain : (n : ℕ) (ws : Terms) → n < 2 ^ 63 → All (λ t. (0 < t.0.var) × (t.0.var ≤ n)) ws → All (IsPlain n) (weakens ws)
weakens_plain n [] small within = All-nil (IsPlain n)
weakens_plain n (w ∷ ws) small within =
    let here = All-head (λ t. (0 < t.0.var) × (t.0.var ≤ n)) w ws within in
    All-cons (IsPlain n) (Weaken w.0.var) (weakens ws) ((here.0, omega arith), All-cons (λ v. v ≤ n) w.0.var [] here.1 (All-nil (λ v. v ≤ n))) (weakens_plain n ws small (All-tail (λ t. (0 < t.0.var) × (t.0.var ≤ n)) w ws within))

div_plain : (n degree : ℕ) → degree < 2 ^ 64 → (b : Bool) → All (IsPlain n) (if b then Div (pos degree) ∷ [] else [])
div_plain n degree small true = All-cons (IsPlain n) (Div (pos degree)) [] ((omega (arith, ints), omega (arith, ints)), All-nil (λ v. v ≤ n)) (All-nil (IsPlain n))
div_plain n degree small false = All-nil (IsPlain n)

cuts_plain : (n degree : ℕ) → degree < 2 ^ 64 → All (IsPlain n) (cuts degree)
cuts_plain n degree small = All-cons (IsPlain n) Saturate (if nat_lt 1 degree then Div (pos degree) ∷ [] else []) (tt, All-nil (λ v. v ≤ n)) (div_plain n degree small (nat_lt 1 degree))

some_tokens : (ids : List ℕ) (id : ℕ) (rest : List PolToken) → summed (ids ++ id ∷ []) ++ rest ≡ [] → ⊥
some_tokens [] id rest e = cc
some_tokens (i ∷ ids) id rest e = cc

tokens_plain : (s : StateValue) (ids : List ℕ) (id : ℕ) (ws : Terms) (degree : ℕ) → s.vars < 2 ^ 63 → All (λ i. i < 2 ^ 63) (named ids) → id < 2 ^ 63 → All (λ t. (0 < t.0.var) × (t.0.var ≤ s.vars)) ws → degree < 2 ^ 64 → All (IsPlain s.vars) (clause_tokens ids id ws degree)
tokens_plain s ids id ws degree vars small id_small within fits = All-append (IsPlain s.vars) (summed (named ids ++ id ∷ [])) (weakens ws ++ cuts degree)
    (summed_plain s.vars (named ids ++ id ∷ []) (All-append (λ i. i < 2 ^ 63) (named ids) (id ∷ []) small (All-cons (λ i. i < 2 ^ 63) id [] id_small (All-nil (λ i. i < 2 ^ 63)))))
    (All-append (IsPlain s.vars) (weakens ws) (cuts degree) (weakens_plain s.vars ws vars within) (cuts_plain s.vars degree fits))

-- ---- what a line more says

-- where a clause that a line by cutting planes makes gives P, P holds wherever the kept clauses do
pol_means : (a b : Snapshot) (s : StateValue) (tokens : List PolToken) (c : ConstraintValue) (P : List Bool → Type 0) → IsReached a s → b.problem ≡ a.problem → b.lines ≡ a.lines ++ Pol tokens ∷ [] →
    IsValueOn (given_in s None None) [] tokens (Ok c) → is_clause c ≡ true → ((x : List Bool) → Holds x c → P x) → Always b P
pol_means a b s tokens c P reached problem lines value clause gives t after x hold =
    let own = pol_leaves a s tokens c reached value b t s.next_id problem lines after (λ u is. ap (λ (v : StateValue). v.next_id) (replay_once a.problem a.lines s u reached is)) in
    gives x (hold s.next_id c (own.0, clause, own.1))

-- ---- the line that is added

module _ (a : Snapshot) (s : StateValue) (state : IsState s) (reached : IsReached a s) (parts : List SumOutput) (weak : Terms) (target : SumOutput) (can : CanImply a s parts weak target) where
  abbrev pub imply_tokens : List PolToken
  imply_tokens = clause_tokens (lowers_of parts) target.upper weak ((sums parts + 1) - target.sum)

  pub sums_small : sums parts < 2 ^ 63
  sums_small = let most = (part_lines a s state can.lists parts can.known).2.most in let whole = can.whole in let small = can.small in omega arith

  all_plain : All (IsPlain s.vars) imply_tokens
  all_plain =
      let made = part_lines a s state can.lists parts can.known in
      let small = sums_small in
      tokens_plain s (lowers_of parts) target.upper weak ((sums parts + 1) - target.sum) (let v = state.vars in let l = state.lines in omega arith)
      (ids_small s state (named (lowers_of parts)) made.0 made.2.lines)
      (id_small s state target.upper _ can.defined.upper.0) can.variables (omega arith)

  pub imply_formed : AreTokens imply_tokens
  imply_formed = (some_tokens (named (lowers_of parts)) target.upper (weakens weak ++ cuts ((sums parts + 1) - target.sum)), All-weaker (IsPlain s.vars) IsToken (λ t plain. plain.0) imply_tokens all_plain)

  pub imply_legal : IsReady a → MayBeAdded a.problem a.lines (Pol imply_tokens)
  imply_legal ready =
      let made = imply_clause a s state parts weak target can in
      let added = pol_may_be_added_law a s imply_tokens made.0 ready reached (record {
        formed = imply_formed;
        variables = All-weaker (IsPlain s.vars) (λ u. All (λ v. v ≤ s.vars) (token_variables u)) (λ u plain. plain.1) imply_tokens all_plain;
        value = made.1;
      }) in
      added.legal

  pub imply_says : (b : Snapshot) → b.problem ≡ a.problem → b.lines ≡ a.lines ++ Pol imply_tokens ∷ [] → Always b (Imply parts target)
  imply_says b problem lines =
      let made = imply_clause a s state parts weak target can in
      pol_means a b s imply_tokens made.0 (Imply parts target) reached problem lines made.1 made.2 made.3
