-- Laws of framed bytes and their shape: its width tells the form, and what the passes test over it is what refusal 6
-- leaves.
use mathlib.Core.Bool.{Bool, true, false, beq}
use mathlib.Core.Logic.{◌↔◌}
use mathlib.Core.Path.{◌≡◌, refl, sym, ap, ap₂, ◌∙◌}
use mathlib.Core.List.{List}
use Prim.Native.Nat.{ℕ, zero, suc, ◌+◌, ◌-◌, ◌≤◌, ◌<◌}
use native.Mathlib.Omega.{arith}
use lib.Dec.{eqb}
use lib.ListN.{length}
use Rattle.rules.specs.Limits.{limit, map_version, up_to}
use Rattle.rules.specs.Bytes.{Bytes}
use Rattle.rules.specs.List.{width, zeros, lower_at, upper_at, Form, two_runs, bitmap, form_version}
use Rattle.rules.specs.ReadList.{list_u, list_n, decode, is_block}
use Rattle.shape.specs.declared.Shape.{Shape}
use Rattle.shape.specs.Shape.{shape_of, map_width, map_shape, form_shape}
use Rattle.laws.proofs.HeadLaws.{up_to_parts}
use Rattle.listlaws.proofs.BlockLaws.{size_is}
use Rattle.shape.proofs.ShapeLaws.{shape_some, bounded, form_shape_n, form_shape_end, form_wide, form_narrow}
use Rattle.listlaws.specs.Sound.{FramedAs, Framed, Sound}
use Rattle.listlaws.proofs.SoundLaws.{sound_iff, none_block}
use Rattle.listlaws.proofs.RefusalLaws.{framed_form}
use Rattle.maplaws.specs.Maps.{MapSound}
use Rattle.maplaws.proofs.MapSoundLaws.{map_sound_iff}
use Rattle.checklaws.specs.Check.{Tells, Laid, Holds}
use Rattle.checklist.specs.Body.{Framing, BodyTold}

-- of the known versions v, the test that both tell a bitmap or neither is that v is the form's
pub form_test : (f : Form) (last v : ℕ) → last ≤ map_version → up_to last v ≡ true
    → beq (eqb v map_version) (eqb (form_version f) map_version) ≡ eqb v (form_version f)
form_test f last v few known = go f v (up_to_parts last v known).0 (omega (arith, (up_to_parts last v known).1))
  where
    go : (f : Form) (v : ℕ) → 1 ≤ v → v ≤ map_version
        → beq (eqb v map_version) (eqb (form_version f) map_version) ≡ eqb v (form_version f)
    go f zero l h = absurd (omega arith)
    go two_runs (suc zero) l h = refl
    go bitmap (suc zero) l h = refl
    go two_runs (suc (suc zero)) l h = refl
    go bitmap (suc (suc zero)) l h = refl
    go f (suc (suc (suc v))) l h = absurd (omega arith)

-- ---- the two runs

module _ (s : List ℕ) (f : Framed s) (some : 0 < list_n s) (g : Shape) (is : g ≡ shape_of (list_u s) (list_n s)) where
  abbrev U : ℕ
  U = list_u s

  abbrev n : ℕ
  n = list_n s

  abbrev w : ℕ
  w = width U n

  pub framed_laid : Bytes s → Laid s g
  unfolding zeros lower_at upper_at
  framed_laid bs =
      let b = bounded U n some f.below f.within in
      let z : n + zeros U w - n ≡ zeros U w = omega arith in
      rw (is ∙ shape_some U n some) (record {
        bytes = bs;
        some = some;
        most = omega arith;
        few = omega (arith, b.few, f.below, f.within);
        narrow = b.narrow;
        short = omega (arith, b.short, f.within);
        zeros_are = refl;
        lower_at_lem = rw z;
        upper_at_lem = refl;
        length_is = f.length_is ∙ size_is U n some;
      })

  holds_sound : Holds s g → Sound s U n w
  unfolding lower_at
  holds_sound b =
      let a = rw (is ∙ shape_some U n some) at b in
      record {
        ones_are = a.ones_are;
        upper_spare = a.upper_spare;
        lower_spare = a.lower_spare;
        rises = a.rises;
        pointers_are = λ q h l. a.pointers_are q h (omega arith);
      }

  sound_holds : Sound s U n w → Holds s g
  unfolding lower_at
  sound_holds a =
      rw (is ∙ shape_some U n some) (record {
        ones_are = a.ones_are;
        upper_spare = a.upper_spare;
        lower_spare = a.lower_spare;
        rises = a.rises;
        pointers_are = λ q h l. a.pointers_are q h (omega arith);
      })

  pub holds_iff : Bytes s → (is_block two_runs s (list_u s) (decode s) ≡ true) ↔ Holds s g
  holds_iff bs = (λ e. sound_holds ((sound_iff s bs f some).0 e), λ h. (sound_iff s bs f some).1 (holds_sound h))

-- ---- a body told

pub tells_is : (r b : Bool) (P : Type 0) → (b ≡ true) ↔ P → Tells r P → r ≡ b
tells_is true b P e t = sym (e.1 (t.0 refl))
tells_is false true P e t = absurd (t.1 refl (e.0 refl))
tells_is false false P e t = refl

module _ (g : Shape) (s : List ℕ) (p : Framing g s) where
  abbrev f : Form
  f = p.form

  width_is : g.w ≡ (form_shape f (list_u s) (list_n s)).w
  width_is = ap (λ (k : Shape). k.w) p.shape_is

  n_is : g.n ≡ list_n s
  n_is = ap (λ (k : Shape). k.n) p.shape_is ∙ form_shape_n f (list_u s) (list_n s)

  told_as : (o : Form) → f ≡ o → (r : Bool) → r ≡ is_block o s (list_u s) (decode s) → BodyTold s r
  told_as o e r t =
      t ∙ ap (λ (k : Form). is_block k s (list_u s) (decode s)) (sym (framed_form f s p.framed ∙ e))

  module _ (wide : g.w ≡ map_width) where
    is_map : f ≡ bitmap
    is_map = form_wide f (list_u s) (list_n s) (sym width_is ∙ wide)

    framed_map : FramedAs bitmap s
    framed_map = rw is_map at p.framed

    shape_map : g ≡ map_shape (list_u s) (list_n s)
    shape_map = p.shape_is ∙ ap (λ (k : Form). form_shape k (list_u s) (list_n s)) is_map

    u_map : g.u ≡ list_u s
    unfolding map_shape
    u_map = ap (λ (k : Shape). k.u) shape_map

    pub map_asked : (g ≡ map_shape g.u g.n) × (length s ≡ g.end) × (g.u ≤ limit)
    map_asked = (
      shape_map ∙ sym (ap₂ map_shape u_map n_is),
      framed_map.length_is ∙ sym (ap (λ (k : Shape). k.end) shape_map ∙ form_shape_end bitmap (list_u s) (list_n s)),
      omega (arith, u_map, p.framed.within),
    )

    pub map_told : (r : Bool) → Tells r (MapSound s g.u g.n) → BodyTold s r
    map_told r t =
        told_as bitmap is_map r (tells_is r (is_block bitmap s (list_u s) (decode s)) (MapSound s (list_u s) (list_n s))
        (map_sound_iff s framed_map p.bytes) (rw (u_map, n_is) at t))

  module _ (thin : g.w ≡ map_width → ⊥) where
    is_runs : f ≡ two_runs
    is_runs = form_narrow f (list_u s) (list_n s) (λ e. thin (width_is ∙ e))

    framed_runs : Framed s
    framed_runs = rw is_runs at p.framed

    shape_runs : g ≡ shape_of (list_u s) (list_n s)
    shape_runs = p.shape_is ∙ ap (λ (k : Form). form_shape k (list_u s) (list_n s)) is_runs

    pub none_told : g.n ≡ 0 → BodyTold s true
    none_told z = told_as two_runs is_runs true (sym (none_block s p.bytes framed_runs (sym n_is ∙ z)))

    module _ (some : 0 < g.n) where
      some_is : 0 < list_n s
      some_is = omega (arith, n_is)

      pub runs_asked : Laid s g
      runs_asked = framed_laid s framed_runs some_is g shape_runs p.bytes

      pub runs_told : (r : Bool) → Tells r (Holds s g) → BodyTold s r
      runs_told r t =
          told_as two_runs is_runs r (tells_is r (is_block two_runs s (list_u s) (decode s)) (Holds s g)
          (holds_iff s framed_runs some_is g shape_runs p.bytes) t)
