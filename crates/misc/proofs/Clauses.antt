-- A pair as the clauses of a function that answers a value and leaves an output.
pub both : {A B : Type 0} → A × B → record { value : A; out_after : B }
both p = record { value = p.0; out_after = p.1 }
