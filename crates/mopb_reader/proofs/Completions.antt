-- Tokens without a fault complete what has begun, so a text without one spells an instance.
use Rattle.std.proofs.Common.{◌≡◌, ℕ, ◌+◌, ◌-◌, ◌<◌, ◌≤◌, ◌^◌, Bool, true, false, cond, max, List, [], ◌∷◌, length, Option, Some, None, Ok, Err, refl, sym, subst, ℤ, pos, arith}
use Rattle.std.specs.Prelude.{nat_lt, nat_le, unsigned_abs}
use Rattle.std.specs.List.{All}
use Rattle.std.proofs.lemmas.Bool.Decides.{nat_tests}
use Rattle.std.proofs.lemmas.List.Elements.{All-nil, All-cons}
use Rattle.scut_base.specs.Number.{signed_value}
use Rattle.instance.specs.declared.row.Linear.{Linear}
use Rattle.instance.specs.declared.row.Rel.{Rel}
use Rattle.instance.specs.declared.row.Rel.TheVariants.{Equal}
use Rattle.instance.specs.declared.objective.Objective.{Objective as Goal}
use Rattle.instance.specs.declared.objective.Sense.{Sense}
use Rattle.instance.specs.declared.fault.InstanceLimit.{InstanceLimit}
use Rattle.instance.specs.declared.fault.InstanceLimit.TheVariants.{Vars, Objectives}
use Rattle.instance.specs.declared.fault.BadKind.TheVariants.{ObjectiveAfterConstraint}
use Rattle.instance.specs.declared.fault.PlaceFault.{PlaceFault}
use Rattle.instance.specs.declared.fault.PlaceFault.TheVariants.{Bad, Limit}
use Rattle.instance.specs.Shape.{InstanceValue, terms_magnitude, objective_magnitude, row_magnitude}
use Rattle.mopb_reader.specs.Tokens.{lines_of, numbered_tokens, tokens_of}
use Rattle.mopb_reader.specs.FirstFault.{Kind, Objective, Constraint, limit_of, Place, Start, Head, Sign, Coefficient, Term as AfterTerm, Relation, BoundSign, Bound, Next, counted, indexed, after_bare, after, Progress, first_fault, nothing_yet}
use Rattle.mopb_reader.specs.Grammar.{Term, term_of, FurtherTerms, TermsThen, BoundThen, RowThen, objective_of, Spells, largest_of, largest_in_objectives, largest_in_rows, EndThen, SpellsStatements}
use Rattle.mopb_reader.specs.Drafts.{instance_of}
use Rattle.mopb_reader.specs.declared.token.Token.{Token}
use Rattle.mopb_reader.specs.declared.token.Token.TheVariants.{Sign as SignToken, Number, Literal, Head as HeadToken, Relation as RelationToken, Semicolon}
use Rattle.mopb_reader.specs.declared.draft.Draft.{Draft}
use Rattle.mopb_reader.proofs.Limits.{draft_spells}
use Rattle.mopb_reader.proofs.Spelling.{may_be_first}
use Rattle.mopb_reader.proofs.Faultless.{fault_then, fault_in, fault_after, magnitude_cons, size_of, bare}

-- statements within the limits, after n objectives and perhaps a row
record Finish (n : ℕ) (seen : Bool) : Type 0 where
  objectives : List Goal
  rows : List Linear
  ordered : seen ≡ true → objectives ≡ []
  room : length objectives ≤ 64 - n
  objectives_small : All (λ o. objective_magnitude o < 2 ^ 63) objectives
  rows_small : All (λ row. row_magnitude row < 2 ^ 63) rows
  objectives_within : largest_in_objectives objectives ≤ 2 ^ 24
  rows_within : largest_in_rows rows ≤ 2 ^ 24

-- a semicolon and the statements
abbrev Ends : (n : ℕ) (seen : Bool) → Finish n seen → List Token → Type 0
Ends n seen f tokens = EndThen (SpellsStatements f.objectives f.rows) tokens

-- what follows the terms of a statement; only a row has the relation and the bound
record Ending (n : ℕ) (seen : Bool) : Type 0 where
  rel : Rel
  bound : ℤ
  finish : Finish n seen

abbrev EndsTerms : (n : ℕ) (seen : Bool) (kind : Kind) → Ending n seen → List Token → Type 0
EndsTerms n seen Objective e tokens = Ends n seen e.finish tokens
EndsTerms n seen Constraint e tokens = BoundThen e.rel e.bound (Ends n seen e.finish) tokens

record Finished (n : ℕ) (seen : Bool) (tokens : List Token) : Type 0 where
  finish : Finish n seen
  spelled : SpellsStatements finish.objectives finish.rows tokens

record Heads (n : ℕ) (seen : Bool) (tokens : List Token) : Type 0 where
  terms : List Term
  finish : Finish n seen
  small : terms_magnitude terms < 2 ^ 63
  within : largest_of terms ≤ 2 ^ 24
  spelled : TermsThen (Ends n seen finish) tokens terms

record Further (n : ℕ) (seen : Bool) (kind : Kind) (sum : ℕ) (tokens : List Token) : Type 0 where
  terms : List Term
  ending : Ending n seen
  small : sum + terms_magnitude terms + unsigned_abs ending.bound < 2 ^ 63
  within : largest_of terms ≤ 2 ^ 24
  spelled : FurtherTerms (EndsTerms n seen kind ending) tokens terms

-- a literal, and what may follow it
record Completed (n : ℕ) (seen : Bool) (kind : Kind) (sum : ℕ) (tokens : List Token) : Type 0 where
  var : ℕ
  neg : Bool
  rest : List Token
  cut : tokens ≡ Literal (Some var) neg ∷ rest
  within : var ≤ 2 ^ 24
  further : Further n seen kind sum rest

-- a term after its sign, and what may follow it
record Unsigned (n : ℕ) (seen : Bool) (kind : Kind) (sum : ℕ) (tokens : List Token) : Type 0 where
  magnitude : ℕ
  var : ℕ
  neg : Bool
  rest : List Token
  within : var ≤ 2 ^ 24
  further : Further n seen kind (sum + magnitude) rest
  spelled : (minus : Bool) → FurtherTerms (EndsTerms n seen kind further.ending) (SignToken minus ∷ tokens)
      (term_of minus magnitude var neg ∷ further.terms)

record Bounded (n : ℕ) (seen : Bool) (sum : ℕ) (tokens : List Token) : Type 0 where
  bound : ℤ
  finish : Finish n seen
  small : sum + unsigned_abs bound < 2 ^ 63
  spelled : (rel : Rel) → BoundThen rel bound (Ends n seen finish) (RelationToken rel ∷ tokens)

record Digits (n : ℕ) (seen : Bool) (sum : ℕ) (tokens : List Token) : Type 0 where
  value : ℕ
  finish : Finish n seen
  small : sum + value < 2 ^ 63
  spelled : (rel : Rel) (minus : Bool)
      → BoundThen rel (signed_value minus value) (Ends n seen finish) (RelationToken rel ∷ SignToken minus ∷ tokens)

record Ended (n : ℕ) (seen : Bool) (tokens : List Token) : Type 0 where
  finish : Finish n seen
  spelled : Ends n seen finish tokens

-- tokens complete what stands before them
abbrev Completes : ℕ → Bool → Place → List Token → Type 0
Completes n seen Start tokens = Finished n seen tokens
Completes n seen Head tokens = Heads n seen tokens
Completes n seen (Sign kind sum) tokens = Unsigned n seen kind sum tokens
Completes n seen (Coefficient kind sum) tokens = Completed n seen kind sum tokens
Completes n seen (AfterTerm kind sum) tokens = Further n seen kind sum tokens
Completes n seen (Relation sum) tokens = Bounded n seen sum tokens
Completes n seen (BoundSign sum) tokens = Digits n seen sum tokens
Completes n seen Bound tokens = Ended n seen tokens

-- the sum at a place is within the limit
abbrev FitsAt : Place → Type 0
FitsAt (Sign kind sum) = sum < 2 ^ 63
FitsAt (Coefficient kind sum) = sum < 2 ^ 63
FitsAt (AfterTerm kind sum) = sum < 2 ^ 63
FitsAt (Relation sum) = sum < 2 ^ 63
FitsAt place = Unit {0}

abbrev at_place : ℕ → Bool → Place → Progress
at_place n seen place = record { objectives = n; rows = seen; place = place }

-- tokens without a fault complete what stands before them, wherever that is
abbrev Hypothesis : List Token → Type 0
Hypothesis tokens = (n : ℕ) (seen : Bool) (place : Place) → FitsAt place → fault_in (at_place n seen place) tokens ≡ None
    → Completes n seen place tokens

-- what a token without a fault says of its number
less : (n m : ℕ) → nat_lt n m ≡ true → n < m
less n m e = grind (arith, nat_tests)

not_more : (n m : ℕ) → nat_le n m ≡ true → n ≤ m
not_more n m e = grind (arith, nat_tests)

if_right : (b : Bool) (p : Progress) (next : Next) (fault : PlaceFault) (tokens : List Token)
    → fault_after p (cond b next (Err fault)) tokens ≡ None → (b ≡ true) × (fault_after p next tokens ≡ None)
if_right true p next fault tokens e = (refl, e)
if_right false p next fault tokens e = absurd cc

counted_right : (limit : InstanceLimit) (sum value : ℕ) (after : ℕ → Place) (p : Progress) (tokens : List Token)
    → fault_after p (counted limit sum (Some value) after) tokens ≡ None
    → (sum + value < 2 ^ 63) × (fault_after p (Ok (after (sum + value))) tokens ≡ None)
counted_right limit sum value after p tokens e =
    let small = if_right (nat_lt (sum + value) (2 ^ 63)) p (Ok (after (sum + value))) (Limit limit) tokens e in
    (less (sum + value) (2 ^ 63) small.0, small.1)

indexed_right : (var : ℕ) (next : Next) (p : Progress) (tokens : List Token) → fault_after p (indexed (Some var) next) tokens ≡ None
    → (var ≤ 2 ^ 24) × (fault_after p next tokens ≡ None)
indexed_right var next p tokens e =
    let small = if_right (nat_le var (2 ^ 24)) p next (Limit Vars) tokens e in
    (not_more var (2 ^ 24) small.0, small.1)

-- ---- terms

literal : (n : ℕ) (seen : Bool) (kind : Kind) (sum : ℕ) (t : Token) (tokens : List Token) → Hypothesis tokens → sum < 2 ^ 63
    → fault_after (at_place n seen Start) (after (Coefficient kind sum) t) tokens ≡ None → Completed n seen kind sum (t ∷ tokens)
literal n seen kind sum (Literal (Some v) neg) tokens further fits e =
    let right = indexed_right v (Ok (AfterTerm kind sum)) (at_place n seen Start) tokens e in
    record { var = v; neg = neg; rest = tokens; cut = refl; within = right.0; further = further n seen (AfterTerm kind sum) fits right.1 }
literal n seen kind sum t tokens further fits e = absurd cc

-- a literal by itself, where 1 counts
lone : (n : ℕ) (seen : Bool) (kind : Kind) (sum v : ℕ) (tokens : List Token) → Hypothesis tokens
    → fault_after (at_place n seen Start) (after_bare kind sum (Some v)) tokens ≡ None → (v ≤ 2 ^ 24) × Further n seen kind (sum + 1) tokens
lone n seen kind sum v tokens further e =
    let within = indexed_right v (counted (limit_of kind) sum (Some 1) (AfterTerm kind)) (at_place n seen Start) tokens e in
    let right = counted_right (limit_of kind) sum 1 (AfterTerm kind) (at_place n seen Start) tokens within.1 in
    (within.0, further n seen (AfterTerm kind (sum + 1)) right.0 right.1)

-- digits and a literal
digits : (n : ℕ) (seen : Bool) (kind : Kind) (sum m : ℕ) (tokens : List Token) → Hypothesis tokens
    → fault_after (at_place n seen Start) (counted (limit_of kind) sum (Some m) (Coefficient kind)) tokens ≡ None
    → Completed n seen kind (sum + m) tokens
digits n seen kind sum m tokens further e =
    let right = counted_right (limit_of kind) sum m (Coefficient kind) (at_place n seen Start) tokens e in
    further n seen (Coefficient kind (sum + m)) right.0 right.1

unsigned : (n : ℕ) (seen : Bool) (kind : Kind) (sum : ℕ) (t : Token) (tokens : List Token) → Hypothesis tokens
    → fault_after (at_place n seen Start) (after (Sign kind sum) t) tokens ≡ None → Unsigned n seen kind sum (t ∷ tokens)
unsigned n seen kind sum (Number (Some m)) tokens further e =
    let c = digits n seen kind sum m tokens further e in
    record {
      magnitude = m;
      var = c.var;
      neg = c.neg;
      rest = c.rest;
      within = c.within;
      further = c.further;
      spelled = λ minus. subst (λ (ts : List Token). FurtherTerms (EndsTerms n seen kind c.further.ending)
          (SignToken minus ∷ Number (Some m) ∷ ts) (term_of minus m c.var c.neg ∷ c.further.terms)) (sym c.cut) (refl, c.further.spelled);
    }
unsigned n seen kind sum (Literal (Some v) neg) tokens further e =
    let l = lone n seen kind sum v tokens further e in
    record { magnitude = 1; var = v; neg = neg; rest = tokens; within = l.0; further = l.1; spelled = λ minus. (refl, l.1.spelled) }
unsigned n seen kind sum t tokens further e = absurd cc

-- a term more
more : (n : ℕ) (seen : Bool) (kind : Kind) (sum m v : ℕ) (neg minus : Bool) (tokens rest : List Token) → v ≤ 2 ^ 24
    → (f : Further n seen kind (sum + m) rest)
    → FurtherTerms (EndsTerms n seen kind f.ending) tokens (term_of minus m v neg ∷ f.terms) → Further n seen kind sum tokens
more n seen kind sum m v neg minus tokens rest within f spelled =
    let t = term_of minus m v neg in
    record {
      terms = t ∷ f.terms;
      ending = f.ending;
      small = omega (arith, f.small, magnitude_cons t f.terms, size_of minus m);
      within = omega (arith, f.within, within);
      spelled = spelled;
    }

signed_more : (n : ℕ) (seen : Bool) (kind : Kind) (sum : ℕ) (minus : Bool) (tokens : List Token) → Unsigned n seen kind sum tokens
    → Further n seen kind sum (SignToken minus ∷ tokens)
signed_more n seen kind sum minus tokens u =
    more n seen kind sum u.magnitude u.var u.neg minus (SignToken minus ∷ tokens) u.rest u.within u.further (u.spelled minus)

counted_more : (n : ℕ) (seen : Bool) (kind : Kind) (sum m : ℕ) (tokens : List Token) → Completed n seen kind (sum + m) tokens
    → Further n seen kind sum (Number (Some m) ∷ tokens)
counted_more n seen kind sum m tokens c =
    more n seen kind sum m c.var c.neg false (Number (Some m) ∷ tokens) c.rest c.within c.further
    (subst (λ (ts : List Token). FurtherTerms (EndsTerms n seen kind c.further.ending) (Number (Some m) ∷ ts)
    (term_of false m c.var c.neg ∷ c.further.terms)) (sym c.cut) (refl, c.further.spelled))

none_more : (n : ℕ) (seen : Bool) (kind : Kind) (sum : ℕ) (tokens : List Token) (e : Ending n seen)
    → sum + unsigned_abs e.bound < 2 ^ 63 → EndsTerms n seen kind e tokens → Further n seen kind sum tokens
none_more n seen kind sum tokens e small ends =
    record { terms = []; ending = e; small = omega (arith, small); within = omega arith; spelled = ends }

term : (n : ℕ) (seen : Bool) (kind : Kind) (sum : ℕ) (t : Token) (tokens : List Token) → Hypothesis tokens → sum < 2 ^ 63
    → fault_after (at_place n seen Start) (after (AfterTerm kind sum) t) tokens ≡ None → Further n seen kind sum (t ∷ tokens)
term n seen Objective sum (SignToken minus) tokens further fits e =
    signed_more n seen Objective sum minus tokens (further n seen (Sign Objective sum) fits e)
term n seen Objective sum (Number (Some m)) tokens further fits e =
    counted_more n seen Objective sum m tokens (digits n seen Objective sum m tokens further e)
term n seen Objective sum Semicolon tokens further fits e =
    let f : Finished n seen tokens = further n seen Start tt e in
    none_more n seen Objective sum (Semicolon ∷ tokens) (record { rel = Equal; bound = pos 0; finish = f.finish }) (omega arith) f.spelled
term n seen Objective sum t tokens further fits e = absurd cc
term n seen Constraint sum (SignToken minus) tokens further fits e =
    signed_more n seen Constraint sum minus tokens (further n seen (Sign Constraint sum) fits e)
term n seen Constraint sum (Number (Some m)) tokens further fits e =
    counted_more n seen Constraint sum m tokens (digits n seen Constraint sum m tokens further e)
term n seen Constraint sum (RelationToken rel) tokens further fits e =
    let b : Bounded n seen sum tokens = further n seen (Relation sum) fits e in
    none_more n seen Constraint sum (RelationToken rel ∷ tokens) (record { rel = rel; bound = b.bound; finish = b.finish }) b.small (b.spelled rel)
term n seen Constraint sum t tokens further fits e = absurd cc

-- ---- bounds

bound_digits : (n : ℕ) (seen : Bool) (sum : ℕ) (t : Token) (tokens : List Token) → Hypothesis tokens
    → fault_after (at_place n seen Start) (after (BoundSign sum) t) tokens ≡ None → Digits n seen sum (t ∷ tokens)
bound_digits n seen sum (Number (Some m)) tokens further e =
    let right = counted_right (limit_of Constraint) sum m (λ _. Bound) (at_place n seen Start) tokens e in
    let ended : Ended n seen tokens = further n seen Bound tt right.1 in
    record { value = m; finish = ended.finish; small = right.0; spelled = λ rel minus. (refl, refl, ended.spelled) }
bound_digits n seen sum t tokens further e = absurd cc

sized : (sum m : ℕ) (minus : Bool) → sum + m < 2 ^ 63 → sum + unsigned_abs (signed_value minus m) < 2 ^ 63
sized sum m minus small = omega (arith, small, size_of minus m)

bounded : (n : ℕ) (seen : Bool) (sum : ℕ) (t : Token) (tokens : List Token) → Hypothesis tokens
    → fault_after (at_place n seen Start) (after (Relation sum) t) tokens ≡ None → Bounded n seen sum (t ∷ tokens)
bounded n seen sum (SignToken minus) tokens further e =
    let d : Digits n seen sum tokens = further n seen (BoundSign sum) tt e in
    record { bound = signed_value minus d.value; finish = d.finish; small = sized sum d.value minus d.small; spelled = λ rel. d.spelled rel minus }
bounded n seen sum (Number (Some m)) tokens further e =
    let right = counted_right (limit_of Constraint) sum m (λ _. Bound) (at_place n seen Start) tokens e in
    let ended : Ended n seen tokens = further n seen Bound tt right.1 in
    record { bound = signed_value false m; finish = ended.finish; small = sized sum m false right.0; spelled = λ rel. (refl, refl, ended.spelled) }
bounded n seen sum t tokens further e = absurd cc

ended : (n : ℕ) (seen : Bool) (t : Token) (tokens : List Token) → Hypothesis tokens
    → fault_after (at_place n seen Start) (after Bound t) tokens ≡ None → Ended n seen (t ∷ tokens)
ended n seen Semicolon tokens further e =
    let f : Finished n seen tokens = further n seen Start tt e in record { finish = f.finish; spelled = f.spelled }
ended n seen t tokens further e = absurd cc

-- ---- objectives

heads_more : (n : ℕ) (seen : Bool) (tokens : List Token) → Further n seen Objective 0 tokens → Heads n seen tokens
heads_more n seen tokens f = record {
  terms = f.terms;
  finish = f.ending.finish;
  small = omega (arith, f.small);
  within = f.within;
  spelled = may_be_first (Ends n seen f.ending.finish) tokens f.terms f.spelled;
}

heads : (n : ℕ) (seen : Bool) (t : Token) (tokens : List Token) → Hypothesis tokens
    → fault_after (at_place n seen Start) (after Head t) tokens ≡ None → Heads n seen (t ∷ tokens)
heads n seen (Literal (Some v) neg) tokens further e =
    let l = lone n seen Objective 0 v tokens further e in
    let t = term_of false 1 v neg in
    record {
      terms = t ∷ l.1.terms;
      finish = l.1.ending.finish;
      small = omega (arith, l.1.small, magnitude_cons t l.1.terms);
      within = omega (arith, l.1.within, l.0);
      spelled = (refl, l.1.spelled);
    }
heads n seen (SignToken minus) tokens further e = heads_more n seen (SignToken minus ∷ tokens) (term n seen Objective 0 (SignToken minus) tokens further (omega arith) e)
heads n seen (Number (Some m)) tokens further e = heads_more n seen (Number (Some m) ∷ tokens) (term n seen Objective 0 (Number (Some m)) tokens further (omega arith) e)
heads n seen Semicolon tokens further e = heads_more n seen (Semicolon ∷ tokens) (term n seen Objective 0 Semicolon tokens further (omega arith) e)
heads n seen t tokens further e = absurd cc

head_right : (seen b : Bool) (q : Progress) (wrong many : PlaceFault) (f : Progress → Option PlaceFault)
    → fault_then (cond seen (Err wrong) (cond b (Ok q) (Err many))) f ≡ None → (seen ≡ false) × (b ≡ true) × (f q ≡ None)
head_right true b q wrong many f e = absurd cc
head_right false true q wrong many f e = (refl, refl, e)
head_right false false q wrong many f e = absurd cc

objective_finished : (n : ℕ) (seen : Bool) (sense : Sense) (tokens : List Token) → seen ≡ false → n < 64 → Heads (n + 1) false tokens
    → Finished n seen (HeadToken sense ∷ tokens)
objective_finished n seen sense tokens first room h =
    let f = h.finish in
    let o = objective_of sense h.terms in
    let small : objective_magnitude o < 2 ^ 63 = omega (arith, h.small) in
    record {
      finish = record {
        objectives = o ∷ f.objectives;
        rows = f.rows;
        ordered = λ e. absurd cc;
        room = omega (arith, room, f.room);
        objectives_small = All-cons (λ (x : Goal). objective_magnitude x < 2 ^ 63) o f.objectives small f.objectives_small;
        rows_small = f.rows_small;
        objectives_within = omega (arith, h.within, f.objectives_within);
        rows_within = f.rows_within;
      };
      spelled = (refl, h.spelled);
    }

-- ---- rows

row_finished : (n : ℕ) (seen : Bool) (tokens : List Token) (terms : List Term) (e : Ending n true)
    → terms_magnitude terms + unsigned_abs e.bound < 2 ^ 63 → largest_of terms ≤ 2 ^ 24
    → TermsThen (BoundThen e.rel e.bound (Ends n true e.finish)) tokens terms → Finished n seen tokens
row_finished n seen tokens terms e small within spelled =
    let f = e.finish in
    let row : Linear = record { terms = terms; rel = e.rel; bound = e.bound } in
    record {
      finish = record {
        objectives = [];
        rows = row ∷ f.rows;
        ordered = λ _. refl;
        room = omega arith;
        objectives_small = All-nil (λ (o : Goal). objective_magnitude o < 2 ^ 63);
        rows_small = All-cons (λ (r : Linear). row_magnitude r < 2 ^ 63) row f.rows small f.rows_small;
        objectives_within = omega arith;
        rows_within = omega (arith, within, f.rows_within);
      };
      spelled = subst (λ (os : List Goal). RowThen (EndThen (SpellsStatements os f.rows)) tokens row) (f.ordered refl) spelled;
    }

row_further : (n : ℕ) (seen : Bool) (tokens : List Token) → Further n true Constraint 0 tokens → Finished n seen tokens
row_further n seen tokens f =
    row_finished n seen tokens f.terms f.ending (omega (arith, f.small)) f.within
    (may_be_first (EndsTerms n true Constraint f.ending) tokens f.terms f.spelled)

row_lone : (n : ℕ) (seen : Bool) (v : ℕ) (neg : Bool) (tokens : List Token) → v ≤ 2 ^ 24 → Further n true Constraint (0 + 1) tokens
    → Finished n seen (Literal (Some v) neg ∷ tokens)
row_lone n seen v neg tokens within f =
    let t = term_of false 1 v neg in
    row_finished n seen (Literal (Some v) neg ∷ tokens) (t ∷ f.terms) f.ending (omega (arith, f.small, magnitude_cons t f.terms))
    (omega (arith, f.within, within)) (refl, f.spelled)

-- ---- all places

statement : (n : ℕ) (seen : Bool) (t : Token) (tokens : List Token) → Hypothesis tokens → fault_in (at_place n seen Start) (t ∷ tokens) ≡ None
    → Finished n seen (t ∷ tokens)
statement n seen (HeadToken sense) tokens further e =
    let right = head_right seen (nat_lt n 64) (at_place (n + 1) false Head) (Bad ObjectiveAfterConstraint) (Limit Objectives) (λ q. fault_in q tokens) e in
    objective_finished n seen sense tokens right.0 (less n 64 right.1) (further (n + 1) false Head tt right.2)
statement n seen (Literal (Some v) neg) tokens further e =
    let l = lone n true Constraint 0 v tokens further e in row_lone n seen v neg tokens l.0 l.1
statement n seen (SignToken minus) tokens further e = row_further n seen (SignToken minus ∷ tokens) (term n true Constraint 0 (SignToken minus) tokens further (omega arith) e)
statement n seen (Number (Some m)) tokens further e = row_further n seen (Number (Some m) ∷ tokens) (term n true Constraint 0 (Number (Some m)) tokens further (omega arith) e)
statement n seen (RelationToken rel) tokens further e = row_further n seen (RelationToken rel ∷ tokens) (term n true Constraint 0 (RelationToken rel) tokens further (omega arith) e)
statement n seen t tokens further e = absurd cc

stepped : (n : ℕ) (seen : Bool) (place : Place) (t : Token) (tokens : List Token) → Hypothesis tokens → FitsAt place
    → fault_in (at_place n seen place) (t ∷ tokens) ≡ None → Completes n seen place (t ∷ tokens)
stepped n seen Start t tokens further fits e = statement n seen t tokens further e
stepped n seen Head t tokens further fits e = heads n seen t tokens further e
stepped n seen (Sign kind sum) t tokens further fits e = unsigned n seen kind sum t tokens further e
stepped n seen (Coefficient kind sum) t tokens further fits e = literal n seen kind sum t tokens further fits e
stepped n seen (AfterTerm kind sum) t tokens further fits e = term n seen kind sum t tokens further fits e
stepped n seen (Relation sum) t tokens further fits e = bounded n seen sum t tokens further e
stepped n seen (BoundSign sum) t tokens further fits e = bound_digits n seen sum t tokens further e
stepped n seen Bound t tokens further fits e = ended n seen t tokens further e

complete : (tokens : List Token) → Hypothesis tokens
complete [] n seen Start fits e = record {
  finish = record {
    objectives = [];
    rows = [];
    ordered = λ _. refl;
    room = omega arith;
    objectives_small = All-nil (λ (o : Goal). objective_magnitude o < 2 ^ 63);
    rows_small = All-nil (λ (r : Linear). row_magnitude r < 2 ^ 63);
    objectives_within = omega arith;
    rows_within = omega arith;
  };
  spelled = refl;
}
complete [] n seen place fits e = absurd cc
complete (t ∷ tokens) n seen place fits e = stepped n seen place t tokens (λ m rows further small found. complete tokens m rows further small found) fits e

pub faultless_spelled : (text : List ℕ) → length text < 2 ^ 32 → first_fault text ≡ None → (i : InstanceValue) × Spells text i
faultless_spelled text short e =
    let all : Finished 0 false (tokens_of text) = complete (tokens_of text) 0 false Start tt (bare (length (lines_of text)) nothing_yet (numbered_tokens 1 (lines_of text)) e) in
    let f = all.finish in
    let d : Draft = record { objectives = f.objectives; linear = f.rows; vars = max (largest_in_objectives f.objectives) (largest_in_rows f.rows) } in
    (instance_of d, draft_spells text d short all.spelled (record { variables = refl; within = omega (arith, f.objectives_within, f.rows_within); count = f.room; objectives = f.objectives_small; rows = f.rows_small }))
