-- A law for each way through a turn of the loops over the parameter rows, and for each answer of the functions that they call.
use Prim.Native.Nat.{ℕ, suc, ◌+◌, ◌*◌, ◌-◌, ◌%◌, ◌<◌, ◌≤◌}
use mathlib.Core.Path.{◌≡◌, refl, ap, ◌∙◌}
use mathlib.Core.Bool.{Bool, true, false}
use mathlib.Core.List.{List}
use mathlib.Core.Option.{Option, none, some, map}
use native.Mathlib.Omega.{arith}
use borrow.Author.Tests.{ne_eqb}
use Rattle.wire.specs.Lists.{among, any_of}
use Rattle.std.specs.Prelude.{Result, Ok, Err, Some, None}
use Rattle.std.specs.Result.{OkIff, result_ok}
use Rattle.wire.specs.Classes.{Class, due, left_out, foreign, descriptor_class, classify}
use Rattle.wire.specs.declared.codes.DataType.{DataType}
use Rattle.wire.specs.declared.codes.FieldType.TheVariants.{Plain}
use Rattle.classes.specs.declared.NotDue.{NotDue}
use Rattle.classes.specs.Classes.{class_of}
use Rattle.dictionary.specs.Format.{Format}
use Rattle.surroundings.specs.Parameters.{cell, is_row, row_format, size_held, with_place, parameter_from, held_from}

-- ---- the bytes of all images

module _ (t : List ℕ) (row count : ℕ) where
  pub held_next : row < count → held_from t (count - row) row ≡ cell t row 5 + held_from t (count - (row + 1)) (row + 1)
  unfolding held_from
  held_next h = let k : count - row ≡ suc (count - (row + 1)) = omega arith in rw (k, held_from)

  pub held-end : count ≤ row → held_from t (count - row) row ≡ 0
  unfolding held_from
  held-end h = let k : count - row ≡ 0 = omega arith in rw k

-- ---- the row of a parameter

module _ (t : List ℕ) (m i row count p : ℕ) where
  pub parameter-here : row < count → (b : Bool) → b ≡ is_row t m i row → b ≡ true → (code scale held : ℕ) →
      code ≡ cell t row 2 → scale ≡ cell t row 3 → held ≡ cell t row 5 →
      map (with_place p) (row_format (descriptor_class code) (scale % 256) held) ≡ parameter_from t m i (count - row) row p
  unfolding parameter_from
  parameter-here h b f e code scale held x y z =
      let k : count - row ≡ suc (count - (row + 1)) = omega arith in rw (k, parameter_from, ← f, e, x, y, z)

  pub parameter-next : row < count → (b : Bool) → b ≡ is_row t m i row → b ≡ false → (held : ℕ) → held ≡ cell t row 5 →
      parameter_from t m i (count - row) row p ≡ parameter_from t m i (count - (row + 1)) (row + 1) (p + held)
  unfolding parameter_from
  parameter-next h b f e held z =
      let k : count - row ≡ suc (count - (row + 1)) = omega arith in rw (k, parameter_from, ← f, e, z)

  pub parameter-end : count ≤ row → none ≡ parameter_from t m i (count - row) row p
  unfolding parameter_from
  parameter-end h = let k : count - row ≡ 0 = omega arith in rw k

-- ---- what a row says

-- a code that is no byte is foreign
far-foreign : (code : ℕ) → 255 < code → descriptor_class code ≡ foreign
unfolding descriptor_class classify among any_of
far-foreign code h =
    rw (
      ne_eqb code 7 (λ z. omega (arith, z)),
      ne_eqb code 8 (λ z. omega (arith, z)),
      ne_eqb code 16 (λ z. omega (arith, z)),
      ne_eqb code 35 (λ z. omega (arith, z)),
      ne_eqb code 14 (λ z. omega (arith, z)),
      ne_eqb code 37 (λ z. omega (arith, z)),
      ne_eqb code 40 (λ z. omega (arith, z)),
      ne_eqb 9 code (λ z. omega (arith, z)),
      ne_eqb 11 code (λ z. omega (arith, z)),
      ne_eqb 10 code (λ z. omega (arith, z)),
      ne_eqb 27 code (λ z. omega (arith, z)),
    )

-- a number as a byte, if it is one
byte-is : {E : Type 0} (r : Result ℕ E) {n x : ℕ} → OkIff r (n < 256) n → Some x ≡ result_ok r → x ≡ n
byte-is (Ok y) i e = cc
byte-is (Err y) i e = absurd cc

no-byte : {E : Type 0} (r : Result ℕ E) {n : ℕ} → OkIff r (n < 256) n → None ≡ result_ok r → 255 < n
no-byte (Ok y) i e = absurd cc
no-byte (Err y) i e = omega (arith, i)

due-class : (x : Class DataType) {t : DataType} → Some t ≡ result_ok (class_of x) → x ≡ due t
due-class (due y) e = cc
due-class left_out e = absurd cc
due-class foreign e = absurd cc

not-due : (x : Class DataType) → None ≡ result_ok (class_of x) → (scale held : ℕ) → none ≡ row_format x scale held
unfolding row_format
not-due (due y) e scale held = absurd cc
not-due left_out e scale held = refl
not-due foreign e scale held = refl

module _ (code scale held p : ℕ) where
  abbrev told : Option (Format × ℕ)
  told = map (with_place p) (row_format (descriptor_class code) scale held)

  module _ {E : Type 0} (r : Result ℕ E) (i : OkIff r (code < 256) code) where
    pub far-code : None ≡ result_ok r → none ≡ told
    unfolding row_format
    far-code e = rw (far-foreign code (no-byte r i e))

    module _ (byte : ℕ) (e : Some byte ≡ result_ok r) (c : Result DataType NotDue) (class : c ≡ class_of (descriptor_class byte)) where
      pub due-code : (t : DataType) (n : ℕ) → Some t ≡ result_ok c → n ≡ size_held t held →
          some (record { type = Plain t; scale = scale; size = n }, p) ≡ told
      unfolding row_format
      due-code t n h f = rw (← byte-is r i e, due-class (descriptor_class byte) (h ∙ ap result_ok class), f)

      pub undue-code : None ≡ result_ok c → none ≡ told
      undue-code h = rw (← byte-is r i e) (ap (map (with_place p)) (not-due (descriptor_class byte) (h ∙ ap result_ok class) scale held))
