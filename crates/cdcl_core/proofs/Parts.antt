-- Some of a list's ids, in their order.
use Rattle.std.proofs.Common.{◌≡◌, ℕ, ◌+◌, ◌<◌, List, [], ◌∷◌, ◌++◌, false, length, get_or, map, take, All, AllPairs, sym, ap, ◌∙◌, subst}
use Rattle.std.specs.Prelude.{Contains}
use Rattle.std.proofs.lemmas.List.{map-append, take_more}
use Rattle.std.proofs.lemmas.List.Elements.{All-contains, All-push, All-weaker, Contains-append_left, Contains-push}
use Rattle.std.proofs.lemmas.List.Quantifiers.{all_pairs_push}
use Rattle.scut_base.proofs.Lists.{AllPairs-last, AllPairs-prefix}
use Rattle.cdcl_core.specs.Ledgers.{IsPart}
use Rattle.cdcl_core.specs.declared.ledger.LearnedClause.{LearnedClause}

abbrev Rising : List ℕ → Type 0
Rising ids = AllPairs (λ i j. i < j) ids

below_last : (whole : List ℕ) (x y : ℕ) → Rising (whole ++ x ∷ []) → Contains whole y → y < x
below_last whole x y rising among = All-contains (λ (i : ℕ). i < x) whole y (AllPairs-last (λ i j. i < j) whole x rising) among

among_more : (part whole : List ℕ) (x : ℕ) → All (Contains whole) part → All (Contains (whole ++ x ∷ [])) part
among_more part whole x all = All-weaker (Contains whole) (Contains (whole ++ x ∷ [])) (Contains-append_left whole (x ∷ [])) part all

pub part_skip : (part whole : List ℕ) (x : ℕ) → IsPart part whole → IsPart part (whole ++ x ∷ [])
part_skip part whole x is = record {
  among = among_more part whole x is.among;
  rising = λ rising. is.rising (AllPairs-prefix (λ i j. i < j) whole x rising);
}

pub part_take : (part whole : List ℕ) (x : ℕ) → IsPart part whole → IsPart (part ++ x ∷ []) (whole ++ x ∷ [])
part_take part whole x is = record {
  among = All-push (Contains (whole ++ x ∷ [])) part x (among_more part whole x is.among) (Contains-push whole x);
  rising = λ rising. all_pairs_push (λ i j. i < j) part x (is.rising (AllPairs-prefix (λ i j. i < j) whole x rising)) (λ k d less. below_last whole x (get_or part k d) rising (is.among k d less));
}

-- ---- along the clauses of a ledger

abbrev ids_of : List LearnedClause → List ℕ
ids_of clauses = map (λ c. c.id) clauses

ids_more : (clauses : List LearnedClause) (i : ℕ) (d : LearnedClause) → i < length clauses → ids_of (take (i + 1) clauses) ≡ ids_of (take i clauses) ++ (get_or clauses i d).id ∷ []
ids_more clauses i d less = ap ids_of (take_more clauses i d less) ∙ map-append (λ (c : LearnedClause). c.id) (take i clauses) (get_or clauses i d ∷ [])

pub skip_one : (part : List ℕ) (clauses : List LearnedClause) (i : ℕ) → i < length clauses → IsPart part (ids_of (take i clauses)) → IsPart part (ids_of (take (i + 1) clauses))
skip_one part clauses i less is =
    let d : LearnedClause = record { id = 0; distance = 0; used = false } in
    subst (IsPart part) (sym (ids_more clauses i d less)) (part_skip part (ids_of (take i clauses)) (get_or clauses i d).id is)

pub take_one : (part now : List ℕ) (clauses : List LearnedClause) (i : ℕ) (d : LearnedClause) → i < length clauses → now ≡ part ++ (get_or clauses i d).id ∷ []
    → IsPart part (ids_of (take i clauses)) → IsPart now (ids_of (take (i + 1) clauses))
take_one part now clauses i d less is_now is =
    subst (IsPart now) (sym (ids_more clauses i d less))
    (subst (λ (ids : List ℕ). IsPart ids (ids_of (take i clauses) ++ (get_or clauses i d).id ∷ [])) (sym is_now) (part_take part (ids_of (take i clauses)) (get_or clauses i d).id is))

pub keep_one : (kept now : List LearnedClause) (clauses : List LearnedClause) (i : ℕ) (c d : LearnedClause) → i < length clauses → now ≡ kept ++ c ∷ [] → c.id ≡ (get_or clauses i d).id
    → IsPart (ids_of kept) (ids_of (take i clauses)) → IsPart (ids_of now) (ids_of (take (i + 1) clauses))
keep_one kept now clauses i c d less is_now same is =
    take_one (ids_of kept) (ids_of now) clauses i d less
    (ap ids_of is_now ∙ map-append (λ (x : LearnedClause). x.id) kept (c ∷ []) ∙ ap (λ (id : ℕ). ids_of kept ++ id ∷ []) same) is
