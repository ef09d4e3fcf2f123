-- Nodes that keep their outputs, and of which those below the root get what they need.
use Rattle.std.proofs.Common.{◌≡◌, ◌⊎◌, inl, inr, ℕ, ◌+◌, ◌<◌, ◌≤◌, List, [], get_or, length, refl, sym, subst, ◌∙◌, ⊎_elim, arith}
use Rattle.std.specs.List.{All, Contains}
use Rattle.std.proofs.Math.ListN.{set}
use Rattle.std.proofs.lemmas.List.{get_or_default, length-set}
use Rattle.std.proofs.lemmas.List.Elements.{All-append, All-contains, All-contains_itself, Contains-append_left}
use Rattle.proof_rules.specs.Recording.{Snapshot}
use Rattle.sum_outputs.specs.Totals.{IsUpToLeast}
use Rattle.sum_outputs.specs.Adding.{IsReady, Continues}
use Rattle.sum_outputs.specs.Falling.{AreExtended}
use Rattle.sum_outputs.specs.MadeOutputs.{AreCompleteTo, AreGrownTo, AreMadeNow, ExtendsTo, IsNeeded}
use Rattle.sum_outputs.specs.declared.node.Node.{Node}
use Rattle.sum_outputs.specs.declared.sum_output.SumOutput.{SumOutput}
use Rattle.sum_outputs.proofs.MadeLists.{set_cases}

-- the same outputs, read with another default
all_here : (made : List (List SumOutput)) (i : ℕ) (os ps : List SumOutput) → i < length made → All (Contains (get_or made i ps)) (get_or made i os)
all_here made i os ps short = subst (λ (qs : List SumOutput). All (Contains qs) (get_or made i os)) (get_or_default made i os ps short) (All-contains_itself (get_or made i os))

old_here : (a : Snapshot) (nodes : List Node) (made : List (List SumOutput)) (i k : ℕ) (os ps : List SumOutput) → i < length made → All (λ o. Contains (get_or made i os) o ⊎ IsNeeded a nodes i k o) (get_or made i ps)
old_here a nodes made i k os ps short j d less = inl (all_here made i ps os short j d less)

-- nothing was made
pub grown_again : (a : Snapshot) (nodes : List Node) (made : List (List SumOutput)) (k : ℕ) → length made ≡ length nodes → AreGrownTo a nodes made made k
grown_again a nodes made k size = record {
  size = refl;
  stays = λ i os ps short. all_here made i os ps (omega arith);
  needed = λ i os ps short. old_here a nodes made i k os ps (omega arith);
}

-- a variable that is new later is new now
needed_before : (a b : Snapshot) → Continues a b → (nodes : List Node) (i k : ℕ) (o : SumOutput) → IsNeeded b nodes i k o → IsNeeded a nodes i k o
needed_before a b on nodes i k o is = record {
  inner = is.inner;
  below_root = is.below_root;
  sum = is.sum;
  fresh = λ s reached. let has = on.states s reached in let more = has.later.vars in let new = is.fresh has.state has.reached in omega arith;
}

-- one after the other
pub grown_twice : (a b : Snapshot) → Continues a b → (nodes : List Node) (one two three : List (List SumOutput)) (k : ℕ) → AreGrownTo a nodes one two k → AreGrownTo b nodes two three k → AreGrownTo a nodes one three k
grown_twice a b on nodes one two three k first second = record {
  size = second.size ∙ first.size;
  stays = λ i os ps short j d less. All-contains (Contains (get_or three i ps)) (get_or two i []) (get_or (get_or one i os) j d) (second.stays i [] ps short) (first.stays i os [] short j d less);
  needed = λ i os ps short j d less.
      let o = get_or (get_or three i ps) j d in
      ⊎_elim
      (λ (old : Contains (get_or two i []) o). All-contains (λ q. Contains (get_or one i os) q ⊎ IsNeeded a nodes i k q) (get_or two i []) o (first.needed i os [] short) old)
      (λ (new : IsNeeded b nodes i k o). inr (needed_before a b on nodes i k o new))
      (second.needed i [] ps short j d less);
}

-- a node below the root has more outputs
module _ (a b : Snapshot) (nodes : List Node) (made : List (List SumOutput)) (i k : ℕ) (n : Node) (os before : List SumOutput) (size : length made ≡ length nodes) (below_root : i + 1 < length nodes)
    (long : (d : Node) → 1 < length (get_or nodes i d).terms) (ext : AreExtended a b (get_or nodes i n).terms (get_or made i before) k os) where
  in_made : i < length made
  in_made = omega arith

  new_needed : All (IsNeeded a nodes i k) ext.more
  new_needed j d less = record {
    inner = long;
    below_root = below_root;
    sum = λ m. subst (λ (nd : Node). IsUpToLeast nd.terms k (get_or ext.more j d).sum) (get_or_default nodes i n m (omega arith)) (ext.needed j d less);
    fresh = λ s reached. ext.fresh s reached j d less;
  }

  stays_here : (xs : List SumOutput) → All (Contains os) (get_or made i xs)
  stays_here xs j d less = subst (λ (ps : List SumOutput). Contains ps (get_or (get_or made i xs) j d)) (sym ext.is)
      (Contains-append_left (get_or made i before) ext.more (get_or (get_or made i xs) j d) (all_here made i xs before in_made j d less))

  needed_here : (xs : List SumOutput) → All (λ o. Contains (get_or made i xs) o ⊎ IsNeeded a nodes i k o) os
  needed_here xs = subst (λ (ps : List SumOutput). All (λ o. Contains (get_or made i xs) o ⊎ IsNeeded a nodes i k o) ps) (sym ext.is)
      (All-append (λ o. Contains (get_or made i xs) o ⊎ IsNeeded a nodes i k o) (get_or made i before) ext.more
      (old_here a nodes made i k xs before in_made)
      (λ j d less. inr (new_needed j d less)))

  pub grown_node : AreGrownTo a nodes made (set made i os) k
  grown_node = record {
    size = length-set made i os;
    stays = λ j xs ys less. set_cases (λ f ps. f < length nodes → All (Contains ps) (get_or made f xs)) made i os in_made
        (λ l. stays_here xs) (λ f d ne l. all_here made f xs d (omega arith)) j ys less;
    needed = λ j xs ys less. set_cases (λ f ps. f < length nodes → All (λ o. Contains (get_or made f xs) o ⊎ IsNeeded a nodes f k o) ps) made i os in_made
        (λ l. needed_here xs) (λ f d ne l. old_here a nodes made f k xs d (omega arith)) j ys less;
  }

-- nodes are as complete where their outputs stay
pub complete_grown : (a : Snapshot) (nodes : List Node) (before now : List (List SumOutput)) (k count h : ℕ) → count ≤ length nodes → AreGrownTo a nodes before now k → AreCompleteTo nodes before count h → AreCompleteTo nodes now count h
complete_grown a nodes before now k count h most grown complete i n os less m can more = ⊎_elim
    (λ (same : (q : SumOutput) × Contains (get_or before i os) q × (q.sum ≡ m)). inl (same.0, stays same.0 same.1, same.2))
    (λ (other : (q : SumOutput) × Contains (get_or before i os) q × (h ≤ q.sum) × (q.sum ≤ m)). inr (other.0, stays other.0 other.1, other.2, other.3))
    (complete i n os less m can more)
  where
    stays : (q : SumOutput) → Contains (get_or before i os) q → Contains (get_or now i os) q
    stays q has = All-contains (Contains (get_or now i os)) (get_or before i os) q (grown.stays i os os (omega arith)) has

-- ---- calls

-- nothing was done yet
pub extends_none : (a : Snapshot) → IsReady a → (nodes : List Node) (made : List (List SumOutput)) (count k : ℕ) → AreMadeNow a nodes made → AreCompleteTo nodes made count k → ExtendsTo a a nodes made made count k
extends_none a ready nodes made count k are complete = record {
  made = are;
  complete = complete;
  grown = grown_again a nodes made k (are ready.state ready.reached).size;
  defined = refl;
  again = λ was. refl;
}

-- one node more
pub extends_more : (a b c : Snapshot) → Continues a b → (nodes : List Node) (one two three : List (List SumOutput)) (count k : ℕ) → count + 1 ≤ length nodes → ExtendsTo a b nodes one two count k → ExtendsTo b c nodes two three (count + 1) k →
    ExtendsTo a c nodes one three (count + 1) k
extends_more a b c on nodes one two three count k most first second = record {
  made = second.made;
  complete = second.complete;
  grown = grown_twice a b on nodes one two three k first.grown second.grown;
  defined = let before = first.defined in let here = second.defined in omega arith;
  again = λ was.
      second.again (complete_grown a nodes one two k (count + 1) k most first.grown was)
      ∙ first.again (λ i n os less. was i n os (omega arith));
}
