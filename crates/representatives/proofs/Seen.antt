-- Models that were seen, in a set of std.
use Rattle.std.specs.Prelude.{◌≡◌, ◌≢◌, ◌↔◌, ◌⊎◌, ℕ, ◌+◌, ◌<◌, Bool, true, false, not, List, [], ◌∷◌, ◌++◌, length, take, drop, ℤ, All, MatchBool, Contains, IsTrue, refl}
use Rattle.std.specs.BTreeSet.{BTreeSet, contains, insert_key}
use Rattle.std.specs.Cmp.{bool_cmp_total}
use Rattle.std.specs.Cmp.Lexicographic.{slice_cmp, lists_total}
use Rattle.std.specs.Ordering.{bool_cmp, match_ordering, ordering_then}
use Rattle.std.specs.declared.cmp.Ordering.{Ordering}
use Rattle.std.specs.declared.cmp.Ordering.TheVariants.{Less, Equal, Greater}
use Rattle.std.proofs.Common.{sym, ◌∙◌, ap, subst, inl, inr, get_or}
use Rattle.std.proofs.lemmas.Bool.{false≢true}
use Rattle.std.proofs.lemmas.List.{drop_more, get_or_default, take-append-drop, take_more}
use Rattle.std.proofs.lemmas.List.Elements.{All-push}
use Rattle.std.proofs.lemmas.List.Quantifiers.{all_pairs_push}
use Rattle.std.proofs.lemmas.Map.Views.{btree_set_contains_iff}
use Rattle.scut_base.proofs.Lists.{Contains-nil, Contains-head, Contains-cons, Contains-cons_cases}
use Rattle.instance.specs.Shape.{InstanceValue}
use Rattle.representatives.specs.Judged.{HasWrongModel, IsModelFault}
use Rattle.representatives.specs.Representatives.{AreDifferent, Serves}
use Rattle.representatives.specs.declared.fault.RepsWhy.{RepsWhy}

-- ---- the order of models

abbrev pub model_cmp : List Bool → List Bool → Ordering
model_cmp a b = slice_cmp bool_cmp a b

exact_bits : (x y : Bool) → bool_cmp x y ≡ Equal → x ≡ y
exact_bits false false e = refl
exact_bits false true e = cc
exact_bits true false e = cc
exact_bits true true e = refl

-- equal models are the same
exact_models : (a b : List Bool) → model_cmp a b ≡ Equal → a ≡ b
exact_models [] [] e = refl
exact_models [] (y ∷ b) e = cc
exact_models (x ∷ a) [] e = cc
exact_models (x ∷ a) (y ∷ b) e = by (bool_cmp x y) refl e (exact_models a b)
  where
    by : (o : Ordering) → bool_cmp x y ≡ o → ordering_then o (model_cmp a b) ≡ Equal → (model_cmp a b ≡ Equal → a ≡ b) → x ∷ a ≡ y ∷ b
    by Less is e rest = cc
    by Equal is e rest = ap (λ (z : Bool). z ∷ a) (exact_bits x y is) ∙ ap (λ (c : List Bool). y ∷ c) (rest e)
    by Greater is e rest = cc

-- ---- a model more

-- a key that is put there is among the keys, and all that were
pub inserted : (keys : List (List Bool)) (a q : List Bool) → Contains (insert_key model_cmp keys a) q ↔ (Contains keys q ⊎ (a ≡ q))
inserted [] a q = (
  λ there. elim (Contains-cons_cases a q [] there) [
    | inl same ↦ inr same
    | inr later ↦ inl later
  ],
  λ either. elim either [
    | inl there ↦ Contains-cons a q [] there
    | inr same ↦ subst (Contains (a ∷ [])) same (Contains-head a [])
  ],
)
inserted (x ∷ keys) a q = by (model_cmp a x) refl (inserted keys a q)
  where
    by : (o : Ordering) → model_cmp a x ≡ o → Contains (insert_key model_cmp keys a) q ↔ (Contains keys q ⊎ (a ≡ q)) → Contains (match_ordering o (a ∷ x ∷ keys) (x ∷ keys) (x ∷ insert_key model_cmp keys a)) q ↔ (Contains (x ∷ keys) q ⊎ (a ≡ q))
    by Less is rest = (
      λ there. elim (Contains-cons_cases a q (x ∷ keys) there) [
        | inl same ↦ inr same
        | inr later ↦ inl later
      ],
      λ either. elim either [
        | inl there ↦ Contains-cons a q (x ∷ keys) there
        | inr same ↦ subst (Contains (a ∷ x ∷ keys)) same (Contains-head a (x ∷ keys))
      ],
    )
    by Equal is rest = (
      λ there. inl there,
      λ either. elim either [
        | inl there ↦ there
        | inr same ↦ subst (Contains (x ∷ keys)) (sym (exact_models a x is) ∙ same) (Contains-head x keys)
      ],
    )
    by Greater is rest = (
      λ there. elim (Contains-cons_cases x q (insert_key model_cmp keys a) there) [
        | inl same ↦ inl (subst (Contains (x ∷ keys)) same (Contains-head x keys))
        | inr later ↦ elim (rest.0 later) [
          | inl old ↦ inl (Contains-cons x q keys old)
          | inr same ↦ inr same
        ]
      ],
      λ either. elim either [
        | inl there ↦ elim (Contains-cons_cases x q keys there) [
          | inl same ↦ subst (Contains (x ∷ insert_key model_cmp keys a)) same (Contains-head x (insert_key model_cmp keys a))
          | inr later ↦ Contains-cons x q (insert_key model_cmp keys a) (rest.1 (inl later))
        ]
        | inr same ↦ Contains-cons x q (insert_key model_cmp keys a) (rest.1 (inr same))
      ],
    )

-- a model is new exactly where no key is the same
pub new_or_seen : (s : BTreeSet (List Bool)) (a : List Bool) (new : Bool) → new ≡ not (contains model_cmp s a) → MatchBool new (Contains s.keys a → ⊥) (Contains s.keys a)
new_or_seen s a new is = by (contains model_cmp s a) refl new is
  where
    has : IsTrue (contains model_cmp s a) ↔ Contains s.keys a
    has = btree_set_contains_iff (lists_total bool_cmp_total) exact_models s a

    by : (b : Bool) → contains model_cmp s a ≡ b → (n : Bool) → n ≡ not b → MatchBool n (Contains s.keys a → ⊥) (Contains s.keys a)
    by true found true e = cc
    by true found false e = has.0 found
    by false found true e = λ there. false≢true (sym found ∙ has.1 there)
    by false found false e = cc

-- ---- members of a list with one more

contains_left : (xs ys : List (List Bool)) (q : List Bool) → Contains xs q → Contains (xs ++ ys) q
contains_left [] ys q there = absurd (Contains-nil q there)
contains_left (x ∷ xs) ys q there = elim (Contains-cons_cases x q xs there) [
  | inl same ↦ subst (Contains (x ∷ (xs ++ ys))) same (Contains-head x (xs ++ ys))
  | inr later ↦ Contains-cons x q (xs ++ ys) (contains_left xs ys q later)
]

contains_last : (xs : List (List Bool)) (a : List Bool) → Contains (xs ++ a ∷ []) a
contains_last [] a = Contains-head a []
contains_last (x ∷ xs) a = Contains-cons x a (xs ++ a ∷ []) (contains_last xs a)

contains_push : (xs : List (List Bool)) (a q : List Bool) → Contains (xs ++ a ∷ []) q → Contains xs q ⊎ (a ≡ q)
contains_push [] a q there = elim (Contains-cons_cases a q [] there) [
  | inl same ↦ inr same
  | inr later ↦ absurd (Contains-nil q later)
]
contains_push (x ∷ xs) a q there = elim (Contains-cons_cases x q (xs ++ a ∷ []) there) [
  | inl same ↦ inl (subst (Contains (x ∷ xs)) same (Contains-head x xs))
  | inr later ↦ elim (contains_push xs a q later) [
    | inl earlier ↦ inl (Contains-cons x q xs earlier)
    | inr same ↦ inr same
  ]
]

-- ---- a walk over models

module _ (models : List (List Bool)) (at : ℕ) (a : List Bool) (within : at < length models) (read : a ≡ get_or models at a) where
  one_more : take (at + 1) models ≡ take at models ++ a ∷ []
  one_more = take_more models at a within ∙ ap (λ (b : List Bool). take at models ++ b ∷ []) (sym read)

  cut_there : models ≡ take at models ++ a ∷ drop (at + 1) models
  cut_there = sym (take-append-drop at models) ∙ ap (λ (rest : List (List Bool)). take at models ++ rest) (drop_more models at a within ∙ ap (λ (b : List Bool). b ∷ drop (at + 1) models) (sym read))

  -- the first that is wrong
  pub wrong_there : (i : InstanceValue) (v : List ℤ) (why : RepsWhy) → All (Serves i v) (take at models) → AreDifferent (take at models) → IsModelFault i v (take at models) a why → HasWrongModel i v models why
  wrong_there i v why serve different wrong = record { before = take at models; model = a; after = drop (at + 1) models; is = cut_there; serve = serve; different = different; wrong = wrong }

  pub serve_more : (i : InstanceValue) (v : List ℤ) → All (Serves i v) (take at models) → Serves i v a → All (Serves i v) (take (at + 1) models)
  serve_more i v serve serves = subst (All (Serves i v)) (sym one_more) (All-push (Serves i v) (take at models) a serve serves)

  pub different_more : AreDifferent (take at models) → (Contains (take at models) a → ⊥) → AreDifferent (take (at + 1) models)
  different_more different fresh = subst AreDifferent (sym one_more) (all_pairs_push (λ x y. x ≢ y) (take at models) a different
      (λ k d short same. fresh (k, short, get_or_default (take at models) k a d short ∙ same)))

  -- the set holds the models up to here
  pub seen_more : (old new : List (List Bool)) → ((q : List Bool) → Contains old q ↔ Contains (take at models) q) → ((q : List Bool) → Contains new q ↔ (Contains old q ⊎ (a ≡ q))) → (q : List Bool) → Contains new q ↔ Contains (take (at + 1) models) q
  seen_more old new before kept q = (
    λ there. subst (λ (xs : List (List Bool)). Contains xs q) (sym one_more) (elim ((kept q).0 there) [
      | inl earlier ↦ contains_left (take at models) (a ∷ []) q ((before q).0 earlier)
      | inr same ↦ subst (Contains (take at models ++ a ∷ [])) same (contains_last (take at models) a)
    ]),
    λ there. elim (contains_push (take at models) a q (subst (λ (xs : List (List Bool)). Contains xs q) one_more there)) [
      | inl earlier ↦ (kept q).1 (inl ((before q).1 earlier))
      | inr same ↦ (kept q).1 (inr same)
    ],
  )
