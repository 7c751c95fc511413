-- What a reader that may open contexts is given stays so along its way, and what it promises under it.
use Prim.Native.Nat.{ℕ, suc, ◌+◌, ◌≤◌}
use mathlib.Core.Path.{◌≡◌, refl}
use mathlib.Core.List.{List}
use native.Mathlib.Omega.{arith}
use lib.ListN.{length}
use Rattle.std.specs.Prelude.{Result, Ok}
use Rattle.std.specs.Prelude as std
use Rattle.wire.specs.Limits.{max_contexts}
use Rattle.grammar.specs.declared.Cursor.{Cursor}
use Rattle.grammar.specs.Environment.{Environment, Scope}
use Rattle.grammar.specs.Reader.{Read, read}
use Rattle.grammar.specs.Values.{read_value}
use Rattle.grammar.specs.declared.Kind.{Kind}
use Rattle.grammar.specs.Demands.{Octets}
use Rattle.grammar.proofs.Went.{Went, Passed, inside}
use Rattle.grammar.proofs.SoundValues.{value-sound, boolean-sound}
use Rattle.grammar.proofs.SoundRses.{sort-sound}
use Rattle.scopes.specs.Scopes.{contexts_held}
use Rattle.references.specs.Promises.{environment_of}
use Rattle.openings.specs.Streams.{relations}
use Rattle.openings.specs.Openings.{Prepared, Opens}
use Rattle.tables.proofs.Chains.{on-cursor, on-part}
use Rattle.expressions.specs.Promises.{Ready, ValueAnswer, Answer, ValueRead, BooleanRead, SortRead}
use Rattle.expressions.proofs.Codes.{Stands}

-- the relations are those of the dictionary
pub relations-known : (d around : List ℕ) → (environment_of d around).relations ≡ relations d
unfolding environment_of
relations-known d around = refl

module _ {s d sc : List ℕ} {c : Cursor} {l : ℕ} (g : Ready s d sc c l) where
  -- at another cursor, with no more levels
  ready_at : {q : Cursor} {l' : ℕ} → q.at ≤ length s → q.contexts ≤ max_contexts → c.contexts ≤ q.contexts → l' ≤ l → Ready s d sc q l'
  ready_at within few more h = record {
    short = g.short;
    is-proper = g.is-proper;
    inside = within;
    contexts_few = few;
    scope_whole = g.scope_whole;
    scope_fits = omega (arith, g.scope_fits);
    sends_fit = omega (arith, g.sends_fit);
    labels_fit = omega (arith, g.labels_fit);
  }

  -- after a code
  pub ready-code : {n l' : ℕ} {q : Cursor} → Stands n s c q → l' ≤ l → Ready s d sc q l'
  ready-code i h = ready_at (i.within g.inside) (omega (arith, i.counts.contexts, g.contexts_few))
      (omega (arith, i.counts.contexts)) h

  -- after a part
  pub ready-went : {bs : List ℕ} {q : Cursor} {k : ℕ} → Went s c bs 0 k 0 q → (c.contexts ≤ max_contexts → q.contexts ≤ max_contexts) →
      Ready s d sc q l
  ready-went w few = ready_at (inside w g.inside) (few g.contexts_few) (omega (arith, w.declared)) (omega arith)

  pub ready-passed : {bs : List ℕ} {q : Cursor} → Passed s c bs q → Ready s d sc q l
  ready-passed w = ready-went w (λ f. omega (arith, w.declared))

  module _ (known : Octets s) (e : Environment) (sc' : Scope) (l' : ℕ) {ct ct' : List ℕ} {q : Cursor} where
    pub ready-value : {r : ValueAnswer} {f : std.Option Kind} → ValueRead l' e sc' s c ct ct' r → r ≡ Ok (f, q) → Ready s d sc q l
    ready-value w i = on-part w i (λ a u h j. let o = value-sound s known e sc' l' c a q u in ready-went o.went o.few)

    pub ready-boolean : {r : Answer} → BooleanRead l' e sc' s c ct ct' r → r ≡ Ok q → Ready s d sc q l
    ready-boolean w i = on-cursor w i (λ a u j. let o = boolean-sound s known e sc' l' c a q u in ready-went o.went o.few)

    pub ready-sort : {r : Answer} → SortRead l' e sc' s c ct ct' r → r ≡ Ok q → Ready s d sc q l
    ready-sort w i = on-cursor w i (λ a u j.
        let o = sort-sound l' e sc' s (read_value l' e sc') (value-sound s known e sc' l') c a q u in ready-went o.went o.few)

  pub ready-prepared : Prepared s d sc c
  ready-prepared = record {
    short = g.short;
    is-proper = g.is-proper;
    inside = g.inside;
    scope_whole = g.scope_whole;
    scope_fits = g.scope_fits;
    sends_fit = omega (arith, g.sends_fit);
    labels_fit = omega (arith, g.labels_fit);
  }

  -- under a scope that was opened
  pub ready-opened : {A : Type 0} {x : Read A} {ct ct' sc' bs : List ℕ} {row : ℕ} {rows : A → List ℕ} {below : A → Scope} {opened : A → ℕ}
      {r : Answer} {a : A} {q : Cursor} {l' : ℕ} → Opens x d ct row rows below opened ct' sc sc' r → x ≡ read a q →
      Went s c bs 0 (opened a) 0 q → (c.contexts ≤ max_contexts → q.contexts ≤ max_contexts) → suc l' ≤ l → Ready s d sc' q l'
  ready-opened {sc'} {opened} {a} w e o few h =
      let held : contexts_held sc' ≡ contexts_held sc + opened a = rw e at w.count_below in
      record {
        short = g.short;
        is-proper = g.is-proper;
        inside = inside o g.inside;
        contexts_few = few g.contexts_few;
        scope_whole = w.whole_below;
        scope_fits = omega (arith, g.scope_fits, held, o.declared);
        sends_fit = omega (arith, g.sends_fit, w.sends_below);
        labels_fit = omega (arith, g.labels_fit, w.labels_below);
      }
