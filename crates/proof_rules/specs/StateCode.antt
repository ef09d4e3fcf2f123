-- What proofs tell states apart by: their fields; nothing of it has to be believed.
use Rattle.std.specs.Prelude.{ℕ, Bool, List, ℤ, refl}
use Rattle.std.specs.Coded.{Coded, code_by, coded×, coded_ℕ, coded_bool, coded_list, coded_ℤ}
use Rattle.pb_lin.specs.LineMap.{LineMap}
use Rattle.pb_lin.specs.LineCodes.{line_code}
use Rattle.proof_laws.specs.State.{StateValue}

abbrev pub state_code : Coded StateValue
state_code = code_by (ℕ × (LineMap × (ℕ × (List (List ℤ) × (ℕ × (ℕ × Bool))))))
    (coded× coded_ℕ (coded× line_code (coded× coded_ℕ (coded× (coded_list (coded_list coded_ℤ)) (coded× coded_ℕ (coded× coded_ℕ coded_bool))))))
    (λ s. (s.vars, (s.live, (s.next_id, (s.sols, (s.lines, (s.learned, s.ended)))))))
    (λ t. record { vars = t.0; live = t.1.0; next_id = t.1.1.0; sols = t.1.1.1.0; lines = t.1.1.1.1.0; learned = t.1.1.1.1.1.0; ended = t.1.1.1.1.1.1 }) (λ _. refl)
