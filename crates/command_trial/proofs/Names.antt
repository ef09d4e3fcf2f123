-- The names of a trial's files differ.
use Rattle.std.proofs.Common.{◌≡◌, ◌≢◌, ℕ, List, ◌++◌, get_or, ap, arith}
use Rattle.std.specs.Prelude.{codes}
use Rattle.std.proofs.lemmas.List.{append_cancel_left}

module _ (base : List ℕ) where
  pub input_not_list : base ++ codes ".mcnf" ≢ base ++ codes ".list"
  input_not_list is =
      let wrong : 109 ≡ 108 = ap (λ (t : List ℕ). get_or t 1 0) (append_cancel_left base (codes ".mcnf") (codes ".list") is) in
      omega (arith, wrong)

  pub input_not_log : base ++ codes ".mcnf" ≢ base ++ codes ".log"
  input_not_log is =
      let wrong : 109 ≡ 108 = ap (λ (t : List ℕ). get_or t 1 0) (append_cancel_left base (codes ".mcnf") (codes ".log") is) in
      omega (arith, wrong)

  pub log_not_list : base ++ codes ".log" ≢ base ++ codes ".list"
  log_not_list is =
      let wrong : 111 ≡ 105 = ap (λ (t : List ℕ). get_or t 2 0) (append_cancel_left base (codes ".log") (codes ".list") is) in
      omega (arith, wrong)
