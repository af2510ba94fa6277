-- `check_in` gives the refusal: of the header first, then each test is that of its number, and 6 is what `body_ok`
-- says.
use mathlib.Core.Bool.{Bool, true, false, not, beq}
use mathlib.Core.Path.{◌≡◌, refl, sym, ap, ap₂, ◌∙◌}
use mathlib.Core.List.{List}
use Prim.Native.Nat.{ℕ, ◌≤◌}
use native.Mathlib.Omega.{arith}
use borrow.Author.Tests.{not-true, eqb-false}
use lib.Dec.{eqb}
use lib.ListN.{length, get_or}
use Rattle.rules.specs.Verdict.{Accepted}
use Rattle.rules.specs.Bytes.{be_at}
use Rattle.rules.specs.Limits.{limit, map_version, list_header}
use Rattle.rules.specs.List.{Form, form_of, form_version, form_size}
use Rattle.rules.specs.ReadList.{list_u, list_n, decode, is_block}
use Rattle.laws.specs.Blocks.{Headed}
use Rattle.laws.proofs.RefusalLaws.{handed_on, went_on, equal_passed}
use Rattle.laws.proofs.HeadLaws.{head_passed}
use Rattle.listlaws.specs.Sound.{FramedAs}
use Rattle.listlaws.proofs.RefusalLaws.{tests, list_then, refuse_limit, refuse_many, refuse_form, refuse_size}
use Rattle.listlaws.proofs.RefusalLaws.{framed_form, framed_accepted, framed_refused}
use Rattle.parts.specs.Places.{head_refusal}
use Rattle.shape.specs.declared.Shape.{Shape}
use Rattle.shape.specs.Shape.{map_width, form_shape}
use Rattle.shape.proofs.ShapeLaws.{form_shape_end, width_tells}
use Rattle.checklist.specs.Body.{BodyTold}
use Rattle.checklist.proofs.CheckLaws.{form_test}
use Rattle.checklist.proofs.check_in.Goals as goal
use Rattle.checklist.proofs.check_in.Goals.{In_ok-check_head, After-pages_shape-g, Else-block-g-2}

-- ---- the header

pub returns-in_err-check_head : goal.returns-in_err-check_head
returns-in_err-check_head c =
    let a = c.args in
    handed_on c.check_head.result (head_refusal list_header a.last a.block.now) c.check_head.ensures
    c.from_residual.result (tests a.last a.version a.block.now) c.in_err-check_head.field-0.0 c.in_err-check_head.was
    c.from_residual.ensures
    ∙ sym (list_then a.last a.version a.block.now)

headed_at : (c : In_ok-check_head) → Headed list_header c.args.last c.args.block.now
headed_at c =
    let a = c.args in
    let q = head_refusal list_header a.last a.block.now in
    (head_passed list_header a.last a.block.now Accepted
    (went_on c.check_head.result q c.check_head.ensures c.in_ok-check_head.field-0 c.in_ok-check_head.was)).0

-- ---- U and n as they are read

read_u : (s : List ℕ) (U : ℕ) → U ≡ be_at 4 s 5 → U ≡ list_u s
unfolding list_u
read_u s U e = e

read_n : (s : List ℕ) (n : ℕ) → n ≡ be_at 4 s 9 → n ≡ list_n s
unfolding list_n
read_n s n e = e

pub returns-then-u-gt-LIMIT : goal.returns-then-u-gt-LIMIT
returns-then-u-gt-LIMIT c =
    let a = c.args in
    let s = a.block.now in
    sym (refuse_limit a.last a.version s (headed_at (goal.at.returns-then-u-gt-LIMIT c).In_ok-check_head)
    (omega (arith, read_u s c.read_u32-u.result c.read_u32-u.ensures.0, c.if-u-gt-LIMIT.true)))

pub returns-then-u-n : goal.returns-then-u-n
returns-then-u-n c =
    let a = c.args in
    let s = a.block.now in
    let u = read_u s c.read_u32-u.result c.read_u32-u.ensures.0 in
    let n = read_n s c.read_u32-n.result c.read_u32-n.ensures.0 in
    sym (refuse_many a.last a.version s (headed_at (goal.at.returns-then-u-n c).In_ok-check_head)
    (omega (arith, u, c.if-u-gt-LIMIT.false)) (omega (arith, u, n, c.if-u-n.true)))

-- ---- the form

-- what is known of a block s once its shape g is worked out, where an index of that version asks for the form
record Shaped (s : List ℕ) (last v : ℕ) (g : Shape) : Type 0 where
  last_known : last ≤ map_version
  headed : Headed list_header last s
  within : list_u s ≤ limit
  below : list_n s ≤ list_u s
  shape_is : g ≡ form_shape (form_of v (list_u s) (list_n s)) (list_u s) (list_n s)

shaped_at : (c : After-pages_shape-g)
    → let a = c.args in
    Headed list_header a.last a.block.now → Shaped a.block.now a.last a.version c.pages_shape-g.result
shaped_at c h =
    let a = c.args in
    let s = a.block.now in
    let u = read_u s c.read_u32-u.result c.read_u32-u.ensures.0 in
    let n = read_n s c.read_u32-n.result c.read_u32-n.ensures.0 in
    record {
      last_known = c.requires;
      headed = h;
      within = omega (arith, u, c.if-u-gt-LIMIT.false);
      below = omega (arith, u, n, c.if-u-n.false);
      shape_is = c.pages_shape-g.ensures ∙ ap₂ (λ (U m : ℕ). form_shape (form_of a.version U m) U m) u n;
    }

module _ (s : List ℕ) (last v : ℕ) (g : Shape) (k : Shaped s last v g) where
  -- the form that the block's place asks for
  abbrev form : Form
  form = form_of v (list_u s) (list_n s)

  form_tested : beq (eqb (get_or s 4 0) map_version) (eqb g.w map_width) ≡ eqb (get_or s 4 0) (form_version form)
  form_tested =
      ap (beq (eqb (get_or s 4 0) map_version))
      (ap (λ (h : Shape). eqb h.w map_width) k.shape_is ∙ width_tells form (list_u s) (list_n s))
      ∙ form_test form last (get_or s 4 0) k.last_known k.headed.known

  other_form : not (beq (eqb (get_or s 4 0) map_version) (eqb g.w map_width)) ≡ true
      → get_or s 4 0 ≡ form_version form → ⊥
  other_form t =
      let b = eqb (get_or s 4 0) (form_version form) in
      let q : not b ≡ true = rw form_tested at t in
      eqb-false (get_or s 4 0) (form_version form) (not-true b q)

  same_form : not (beq (eqb (get_or s 4 0) map_version) (eqb g.w map_width)) ≡ false → get_or s 4 0 ≡ form_version form
  same_form t = equal_passed (get_or s 4 0) (form_version form) (rw form_tested at t)

  -- ---- the length

  end_is : g.end ≡ form_size form (list_u s) (list_n s)
  end_is = ap (λ (h : Shape). h.end) k.shape_is ∙ form_shape_end form (list_u s) (list_n s)

  framed : get_or s 4 0 ≡ form_version form → length s ≡ g.end → FramedAs form s
  framed f e = record {
    header = k.headed.header;
    length_stated = k.headed.states;
    version_is = f;
    within = k.within;
    below = k.below;
    length_is = e ∙ end_is;
  }

pub returns-then-block-g : goal.returns-then-block-g
returns-then-block-g c =
    let a = c.args in
    let s = a.block.now in
    let p = goal.at.returns-then-block-g c in
    let k = shaped_at p.After-pages_shape-g (headed_at p.In_ok-check_head) in
    let g = c.pages_shape-g.result in
    sym (refuse_form a.last a.version s k.headed k.within k.below (form s a.last a.version g k) refl
    (other_form s a.last a.version g k c.if-block-g.true))

pub returns-then-block-g-2 : goal.returns-then-block-g-2
returns-then-block-g-2 c =
    let a = c.args in
    let s = a.block.now in
    let p = goal.at.returns-then-block-g-2 c in
    let k = shaped_at p.After-pages_shape-g (headed_at p.In_ok-check_head) in
    let g = c.pages_shape-g.result in
    sym (refuse_size a.last a.version s k.headed k.within k.below (form s a.last a.version g k) refl
    (same_form s a.last a.version g k c.if-block-g.false)
    (λ q. c.if-block-g-2.true (q ∙ sym (end_is s a.last a.version g k))))

-- ---- behind the frame

framed_at : (c : Else-block-g-2)
    → let a = c.args in
    (k : Shaped a.block.now a.last a.version c.pages_shape-g.result)
    → FramedAs (form a.block.now a.last a.version c.pages_shape-g.result k) a.block.now
framed_at c k =
    let a = c.args in
    let g = c.pages_shape-g.result in
    framed a.block.now a.last a.version g k (same_form a.block.now a.last a.version g k c.if-block-g.false)
    c.if-block-g-2.false

pub body_ok-requires : goal.body_ok-requires
body_ok-requires c =
    let a = c.args in
    let p = goal.at.body_ok-requires c in
    let k = shaped_at p.After-pages_shape-g (headed_at p.In_ok-check_head) in
    record {
      form = form a.block.now a.last a.version c.pages_shape-g.result k;
      bytes = λ i. omega (arith, c.type_inv.block i);
      framed = framed_at c k;
      shape_is = k.shape_is;
    }

-- what the body tells, in the form that is asked for
told : (s : List ℕ) (f : Form) (b : Bool) → FramedAs f s → BodyTold s b → b ≡ is_block f s (list_u s) (decode s)
told s f b r e = e ∙ ap (λ (h : Form). is_block h s (list_u s) (decode s)) (framed_form f s r)

pub returns-then-body_ok : goal.returns-then-body_ok
returns-then-body_ok c =
    let a = c.args in
    let s = a.block.now in
    let p = goal.at.returns-then-body_ok c in
    let k = shaped_at p.After-pages_shape-g (headed_at p.In_ok-check_head) in
    let f = form s a.last a.version c.pages_shape-g.result k in
    let r = framed_at p.Else-block-g-2 k in
    sym (framed_accepted a.last a.version s f refl k.headed.known r
    (sym (told s f c.body_ok.result r c.body_ok.ensures) ∙ c.if-body_ok.true))

pub returns : goal.returns
returns c =
    let a = c.args in
    let s = a.block.now in
    let p = goal.at.returns c in
    let k = shaped_at p.After-pages_shape-g (headed_at p.In_ok-check_head) in
    let f = form s a.last a.version c.pages_shape-g.result k in
    let r = framed_at p.Else-block-g-2 k in
    sym (framed_refused a.last a.version s f refl k.headed.known r
    (sym (told s f c.body_ok.result r c.body_ok.ensures) ∙ c.if-body_ok.false))
