-- A totalizer after an output was asked for.
use Rattle.std.proofs.Common.{◌≡◌, ◌≢◌, ◌⊎◌, ⊎_elim, inl, inr, ℕ, ◌-◌, ◌<◌, List, [], length, get_or, ap, sym, subst, ◌∙◌, arith}
use Rattle.std.specs.List.{Contains}
use Rattle.std.proofs.Math.ListN.{set}
use Rattle.std.proofs.lemmas.Bool.{cases_eq}
use Rattle.std.proofs.lemmas.List.{get_or-set_same, get_or-set_other, length-set}
use Rattle.std.proofs.lemmas.List.Elements.{All-contains}
use Rattle.scut_base.specs.Literal.{Literal}
use Rattle.cutting_planes.proofs.Terms.{Terms}
use Rattle.proof_laws.specs.State.{StateValue}
use Rattle.proof_rules.specs.Recording.{Snapshot}
use Rattle.sum_outputs.specs.Totals.{IsLeastSum}
use Rattle.sum_outputs.specs.Adding.{HasLater, IsReached, IsReady, Continues}
use Rattle.sum_outputs.specs.Falling.{IsAsked, IsFresh, IsKept}
use Rattle.sum_outputs.specs.MadeOutputs.{AreMadeNow, AreCompleteTo, AreGrownTo, ExtendsTo, IsNeeded}
use Rattle.sum_outputs.specs.declared.node.Node.{Node}
use Rattle.sum_outputs.specs.declared.sum_output.SumOutput.{SumOutput}
use Rattle.totalizer.specs.Totalizing.{TotalizerValue, root_terms, Fits}
use Rattle.sum_outputs.proofs.GrownOutputs.{complete_grown}
use Rattle.totalizer.specs.Demanding.{AddsDemanded, IsAnswered, IsDemanded, IsThere, MakesDemanded}
use Rattle.totalizer.proofs.AskedRoot.{IsAskedRoot, made_asked, complete_stays, count_more}
use Rattle.totalizer.proofs.DemandedOutputs.{all_there, answered_by, is_there}
use Rattle.totalizer.proofs.KnownOutputs.{complete_to}
use Rattle.totalizer.proofs.Roots.{root_is, some_nodes}

abbrev pub totalizer_of : List Node → List (List SumOutput) → TotalizerValue
totalizer_of nodes made = record { nodes = nodes; made = made }

-- the nodes below the root were extended up to a number, and then the root was asked
pub record AreCalls (a c b : Snapshot) (nodes : List Node) (before made : List (List SumOutput)) (k : ℕ)
    (o : SumOutput) (os : List SumOutput) : Type 0 where
  pub ready : IsReady a
  pub on : Continues a c
  pub from_one : 0 < k
  pub fits : Fits a (totalizer_of nodes before)
  pub extends : ExtendsTo a c nodes before made (length nodes - 1) k
  pub last : IsAskedRoot c b nodes made k o os

module _ (a c b : Snapshot) (nodes : List Node) (before made : List (List SumOutput)) (k : ℕ) (o : SumOutput)
    (os : List SumOutput) (calls : AreCalls a c b nodes before made k o os) where
  abbrev root : ℕ
  root = length nodes - 1

  abbrev new : List (List SumOutput)
  new = set made root os

  grown : AreGrownTo a nodes before made k
  grown = calls.extends.grown

  asked : IsAsked c b (root_terms nodes) (get_or made root []) k o os
  asked = calls.last.asked []

  some : 0 < length nodes
  some = some_nodes nodes (let long = calls.last.long in omega arith)

  root_short : root < length nodes
  root_short = let more = some in omega arith

  in_made : (i : ℕ) → i < length nodes → i < length made
  in_made i short =
      let ready = calls.last.ready in
      let e = (calls.last.are ready.state ready.reached).size in
      omega arith

  in_new : (i : ℕ) → i < length nodes → i < length new
  in_new i short = let e = length-set made root os in let w = in_made i short in omega arith

  in_before : (i : ℕ) → i < length nodes → i < length before
  in_before i short = let e = grown.size in let w = in_made i short in omega arith

  at_root : (d : List SumOutput) → get_or new root d ≡ os
  at_root d = get_or-set_same made root os d (in_made root root_short)

  at_other : (i : ℕ) (d : List SumOutput) → i ≢ root → get_or new i d ≡ get_or made i d
  at_other i d ne = get_or-set_other made root i os d ne

  -- an element of the one is one of the other
  moved : (ps qs : List SumOutput) (q : SumOutput) → ps ≡ qs → Contains ps q → Contains qs q
  moved ps qs q same has = subst (λ (rs : List SumOutput). Contains rs q) same has

  now_made : AreMadeNow b nodes new
  now_made = made_asked c b nodes made k o os calls.last

  now_complete : (h : ℕ) → AreCompleteTo nodes made root h → AreCompleteTo nodes new root h
  now_complete = complete_stays c b nodes made k o os calls.last

  -- the root got no output before it was asked
  was_at_root : (q : SumOutput) → Contains (get_or made root []) q → Contains (get_or before root []) q
  was_at_root q has = ⊎_elim
      (λ (old : Contains (get_or before root []) q). old)
      (λ (needed : IsNeeded a nodes root k q). let below = needed.below_root in absurd (omega arith))
      (All-contains (λ p. Contains (get_or before root []) p ⊎ IsNeeded a nodes root k p) (get_or made root []) q
      (grown.needed root [] [] root_short) has)

  asked_complete : (q : SumOutput) (d : List SumOutput) → Contains (get_or new root d) q →
      AreCompleteTo nodes new root q.from
  asked_complete q d has = ⊎_elim
      (λ (same : q ≡ o).
      let from : k ≡ q.from = sym (ap (λ (p : SumOutput). p.from) same ∙ asked.from) in
      subst (λ (h : ℕ). AreCompleteTo nodes new root h) from (now_complete k calls.extends.complete))
      (λ (old : Contains (get_or made root []) q).
      let was = calls.fits.asked q [] (was_at_root q old) in
      now_complete q.from (complete_grown a nodes before made k root q.from (omega arith) grown was))
      (All-contains (λ p. (p ≡ o) ⊎ Contains (get_or made root []) p) os q asked.others
      (moved (get_or new root d) os q (at_root d) has))

  pub fits_asked : Fits b (totalizer_of nodes new)
  fits_asked = record { rooted = calls.fits.rooted; made = now_made; asked = asked_complete }

  -- ---- what was made

  abbrev later : HasLater c b calls.last.ready.state
  later = calls.last.on.states calls.last.ready.state calls.last.ready.reached

  all_now : (i n : ℕ) → i < length nodes → IsDemanded nodes k i n → (l : Literal) × IsThere new i n l
  all_now = all_there b later.state nodes new (now_made later.state later.reached) k (now_complete k calls.extends.complete) o
      (moved os (get_or new root []) o (sym (at_root [])) asked.there) asked.least

  there_by : (ms : List (List SumOutput)) (i n : ℕ) (l : Literal) (q : SumOutput) → i < length ms →
      Contains (get_or ms i []) q → q.lit ≡ l → q.sum ≡ n → IsThere ms i n l
  there_by ms i n l q short has lit sum = subst (λ (m : ℕ). IsThere ms i m l) sum
      (subst (λ (m : Literal). IsThere ms i q.sum m) lit (is_there ms i q short has))

  stay_now : (i n : ℕ) (l : Literal) → i < length nodes → IsThere before i n l → IsThere new i n l
  stay_now i n l short is =
      let q = is [] in
      let grew : Contains (get_or made i []) q.0 = All-contains (Contains (get_or made i [])) (get_or before i []) q.0
      (grown.stays i [] [] short) q.1 in
      ⊎_elim
      (λ (at : i ≡ root).
      let here = moved (get_or made i []) (get_or made root []) q.0 (ap (λ (j : ℕ). get_or made j []) at) grew in
      let kept : IsKept os q.0 = All-contains (IsKept os) (get_or made root []) q.0 asked.stays here in
      let place : get_or new i [] ≡ os = ap (λ (j : ℕ). get_or new j []) at ∙ at_root [] in
      there_by new i n l kept.0 (in_new i short) (moved os (get_or new i []) kept.0 (sym place) kept.1)
      (kept.2 ∙ q.2) (kept.3 ∙ q.3))
      (λ (ne : i ≢ root).
      let here = moved (get_or made i []) (get_or new i []) q.0 (sym (at_other i [] ne)) grew in
      there_by new i n l q.0 (in_new i short) here q.2 q.3)
      (cases_eq i root)

  abbrev IsNewAt : ℕ → ℕ → Literal → Type 0
  IsNewAt i n l = IsDemanded nodes k i n × ((s : StateValue) → IsReached a s → s.vars < l.var)

  -- a variable that is new to a later state is new
  fresh_before : (q : SumOutput) → IsFresh c q → (s : StateValue) → IsReached a s → s.vars < q.lit.var
  fresh_before q fresh s reached =
      let has = calls.on.states s reached in
      let more = has.later.vars in
      let above = fresh has.state has.reached in
      omega arith

  new_at : (i n : ℕ) (l : Literal) (q : SumOutput) → q.lit ≡ l → q.sum ≡ n → IsNewAt i q.sum q.lit → IsNewAt i n l
  new_at i n l q lit sum is =
      subst (λ (m : ℕ). IsNewAt i m l) sum (subst (λ (m : Literal). IsNewAt i q.sum m) lit is)

  -- the root's new output is the one that was asked for
  asked_is_new : (q : SumOutput) → q ≡ o → IsFresh c q → IsNewAt root q.sum q.lit
  asked_is_new q same fresh =
      let least = subst (λ (p : SumOutput). IsLeastSum (root_terms nodes) k p.sum) (sym same) asked.least in
      let more = some in (
        (λ d. inl (omega arith, subst (λ (ts : Terms). IsLeastSum ts k q.sum) (root_is nodes d some) least)),
        fresh_before q fresh,
      )

  new_at_root : (n : ℕ) (l : Literal) (q : SumOutput) → Contains os q → q.lit ≡ l → q.sum ≡ n →
      IsThere before root n l ⊎ IsNewAt root n l
  new_at_root n l q has lit sum = ⊎_elim
      (λ (kept : IsKept (get_or made root []) q).
      let was = was_at_root kept.0 kept.1 in
      inl (there_by before root n l kept.0 (in_before root root_short) was (kept.2 ∙ lit) (kept.3 ∙ sum)))
      (λ (fresh : (q ≡ o) × IsFresh c q). inr (new_at root n l q lit sum (asked_is_new q fresh.0 fresh.1)))
      (All-contains (λ p. IsKept (get_or made root []) p ⊎ ((p ≡ o) × IsFresh c p)) os q asked.kept has)

  new_below : (i n : ℕ) (l : Literal) (q : SumOutput) → i < length nodes → Contains (get_or made i []) q →
      q.lit ≡ l → q.sum ≡ n → IsThere before i n l ⊎ IsNewAt i n l
  new_below i n l q short has lit sum = ⊎_elim
      (λ (old : Contains (get_or before i []) q). inl (there_by before i n l q (in_before i short) old lit sum))
      (λ (needed : IsNeeded a nodes i k q).
      inr (new_at i n l q lit sum ((λ d. inr (needed.below_root, needed.sum d)), needed.fresh)))
      (All-contains (λ p. Contains (get_or before i []) p ⊎ IsNeeded a nodes i k p) (get_or made i []) q
      (grown.needed i [] [] short) has)

  new_now : (i n : ℕ) (l : Literal) → i < length nodes → IsThere new i n l → IsThere before i n l ⊎ IsNewAt i n l
  new_now i n l short is =
      let q = is [] in
      ⊎_elim
      (λ (at : i ≡ root).
      let place : get_or new i [] ≡ os = ap (λ (j : ℕ). get_or new j []) at ∙ at_root [] in
      subst (λ (j : ℕ). IsThere before j n l ⊎ IsNewAt j n l) (sym at)
      (new_at_root n l q.0 (moved (get_or new i []) os q.0 place q.1) q.2 q.3))
      (λ (ne : i ≢ root).
      new_below i n l q.0 short (moved (get_or new i []) (get_or made i []) q.0 (at_other i [] ne) q.1) q.2 q.3)
      (cases_eq i root)

  makes_demanded : MakesDemanded a b k (totalizer_of nodes before) (totalizer_of nodes new)
  makes_demanded = record {
    all = all_now;
    stay = stay_now;
    new = new_now;
    defined =
        let counted = count_more c b nodes made k o os calls.last [] in
        let first = calls.extends.defined in
        let second = asked.counted in
        omega arith;
  }

  -- no line was added where the output that was asked for was there
  no_line_again : IsAnswered (totalizer_of nodes before) k o.lit → b.lines ≡ a.lines
  no_line_again was =
      let there = was calls.last.long o.sum asked.least [] in
      let q = there.0 in
      let least = subst (λ (n : ℕ). IsLeastSum (root_terms nodes) k n) (sym there.3) asked.least in
      let first = calls.extends.again
      (complete_to a (totalizer_of nodes before) calls.fits calls.ready some k calls.from_one q there.1 least) in
      let stays : Contains (get_or made root []) q = All-contains (Contains (get_or made root []))
      (get_or before root []) q (grown.stays root [] [] root_short) there.1 in
      asked.again q stays least ∙ first

  pub adds_demanded : AddsDemanded a b k (totalizer_of nodes before) (totalizer_of nodes new) o.lit
  adds_demanded = record {
    makes = makes_demanded;
    answered = answered_by (totalizer_of nodes new) k o (in_new root root_short)
        (moved os (get_or new root []) o (sym (at_root [])) asked.there) asked.least;
    again = no_line_again;
  }
