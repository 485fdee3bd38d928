-- A fact of an answer Ok from others.
use Rattle.std.proofs.Common.{Result, Ok, Err, OnOk, IfErr}

pub on_ok : {E : Type 0} {P Q : Type 0} (result : Result (Unit {0}) E) → (P → Q) → OnOk result P → OnOk result Q
on_ok (Ok done) gives given = gives given
on_ok (Err fault) gives given = tt

pub on_ok_both : {E : Type 0} {P Q R : Type 0} (result : Result (Unit {0}) E) → (P → Q → R) → OnOk result P → OnOk result Q → OnOk result R
on_ok_both (Ok done) gives one two = gives one two
on_ok_both (Err fault) gives one two = tt

-- a fact of a fault from another
pub if_err : {A E : Type 0} {P Q : E → Type 0} (result : Result A E) → ((fault : E) → P fault → Q fault) → IfErr result P → IfErr result Q
if_err (Ok value) gives given = tt
if_err (Err fault) gives given = gives fault given
