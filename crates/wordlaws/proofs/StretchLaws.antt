-- Laws of a stretch of positions: which of them end a page, and the elements that follow from that.
use mathlib.Core.Bool.{true}
use mathlib.Core.Path.{◌≡◌, refl, sym, ap, ◌∙◌, subst}
use mathlib.Core.List.{List, [], ◌∷◌, ◌++◌}
use Prim.Native.Nat.{ℕ, zero, suc, ◌+◌, ◌-◌, ◌*◌, ◌^◌, ◌≤◌, ◌<◌, min}
use native.Mathlib.Nat.{add-zero}
use native.Mathlib.Decide.{dec_lt, ℕ_discrete}
use native.Mathlib.Numerals.{add-one}
use native.Mathlib.Omega.{arith}
use borrow.Author.Tests.{lt-ltb, le-ltb, eq-eqb, ne_eqb}
use lib.ListN.{length, get_or, take, drop, set, replicate, length-drop, length-set, length-replicate}
use lib.ListN.{drop_of_length-le, get_or-replicate, get_or-append, get_or-eq_default}
use lib.Seq.{length-take-le, get_or-append-add, get_or-take, get_or-drop, get_or-set_same, get_or-set_other, ext_get_or}
use Rattle.rules.specs.Term.{total, next, raised, placed, positive}
use Rattle.listlaws.proofs.RisingLaws.{rising_at}
use Rattle.termlaws.proofs.SumLaws.{positive_parts}
use Rattle.termlaws.proofs.PlaceLaws.{length_raised, length_placed}
use Rattle.shape.specs.declared.Shape.{Shape}
use Rattle.filllaws.proofs.RiseLaws.{drop_front}
use Rattle.wordlaws.specs.Lists.{Places}
use Rattle.wordlaws.specs.Stretch.{last_at, headed, marks_of, base_at}
use Rattle.wordlaws.specs.Stretch.{Marked, Bounded, Based, Placing, SpotAt}
use Rattle.wordlaws.specs.declared.Turn.{Turn}
use Rattle.wordlaws.specs.declared.Spot.{Spot}
use Rattle.wordlaws.proofs.CheckLaws.{next_last, next_page}
use Rattle.wordlaws.proofs.LayLaws.{positive_at}

-- ---- which positions end a page

module _ (c : ℕ) (cs : List ℕ) (j : ℕ) where
  last_before : j + 1 < c → last_at (c ∷ cs) j ≡ 0
  unfolding last_at
  last_before h = rw (lt-ltb j c (omega arith), ne_eqb (j + 1) c (λ e. omega arith))

  last_end : j + 1 ≡ c → last_at (c ∷ cs) j ≡ 1
  unfolding last_at
  last_end e = rw (lt-ltb j c (omega arith), eq-eqb (j + 1) c e)

  last_behind : c ≤ j → last_at (c ∷ cs) j ≡ last_at cs (j - c)
  unfolding last_at
  last_behind h = rw (le-ltb j c h)

last_none : (j : ℕ) → last_at [] j ≡ 0
unfolding last_at
last_none j = refl

-- a page of which d positions are passed
last_shift : (c d : ℕ) (cs : List ℕ) (j : ℕ) → d < c → last_at ((c - d) ∷ cs) j ≡ last_at (c ∷ cs) (d + j)
last_shift c d cs j h =
    elim (dec_lt (d + j + 1) c) [
      | yes l ↦ last_before (c - d) cs j (omega arith) ∙ sym (last_before c cs (d + j) l)
      | no l ↦ elim (ℕ_discrete (d + j + 1) c) [
        | yes e ↦ last_end (c - d) cs j (omega arith) ∙ sym (last_end c cs (d + j) e)
        | no e ↦
            let g : j - (c - d) ≡ d + j - c = omega arith in
            last_behind (c - d) cs j (omega arith) ∙ ap (last_at cs) g ∙ sym (last_behind c cs (d + j) (omega arith))
      ]
    ]

last_le : (cs : List ℕ) (j : ℕ) → last_at cs j ≤ 1
last_le [] j = omega (arith, last_none j)
last_le (c ∷ cs) j =
    elim (dec_lt (j + 1) c) [
      | yes l ↦ omega (arith, last_before c cs j l)
      | no l ↦ elim (ℕ_discrete (j + 1) c) [
        | yes e ↦ omega (arith, last_end c cs j e)
        | no e ↦ omega (arith, last_behind c cs j (omega arith), last_le cs (j - c))
      ]
    ]

-- the last position of all ends a page
last_last : (cs : List ℕ) → positive cs ≡ true → (k : ℕ) → total cs ≡ suc k → last_at cs k ≡ 1
unfolding total
last_last [] p k e = absurd (omega arith)
last_last (c ∷ []) p k e = last_end c [] k (omega arith)
last_last (c ∷ (d ∷ cs)) p k e =
    let t = positive_parts c (d ∷ cs) p in
    let u = positive_parts d cs t.1 in
    last_behind c (d ∷ cs) k (omega arith) ∙ last_last (d ∷ cs) t.1 (k - c) (omega arith)

headed_on : (e : ℕ) (cs : List ℕ) (i : ℕ) → i < length cs → headed e (drop i cs) ≡ e ∷ drop (i + 1) cs
unfolding headed
headed_on e cs i h = ap (headed e) (drop_front cs i h)

headed_none : (e : ℕ) (cs : List ℕ) (i : ℕ) → length cs ≤ i → headed e (drop i cs) ≡ []
unfolding headed
headed_none e cs i h = ap (headed e) (drop_of_length-le cs h)

-- ---- marks

zeros_at : (n j : ℕ) → ◌≡◌ {A = ℕ} (get_or (replicate n 0) j 0) 0
zeros_at n j =
    elim (dec_lt j n) [
      | yes h ↦ get_or-replicate n j 0 0 h
      | no h ↦ get_or-eq_default (replicate n 0) 0 {n = j} (omega (arith, length-replicate {A = ℕ} n 0))
    ]

-- where page number `page` ends at `end`: the marks up to it are those of m, and from there on there is none yet
pub record Marking (cs : List ℕ) (m : ℕ → ℕ) (page end : ℕ) (part : List ℕ) : Type 0 where
  pub more : page < length cs
  pub some : 0 < end
  pub small : end ≤ 256 + 2 ^ 32
  pub long : length part ≡ 256
  pub before : (j : ℕ) → j + 1 < end → j < 256 → get_or part j 0 ≡ m j
  pub behind : (j : ℕ) → end ≤ j + 1 → get_or part j 0 ≡ 0
  pub rest : (j : ℕ) → m (min (end - 1) 256 + j) ≡ last_at ((end - min (end - 1) 256) ∷ drop (page + 1) cs) j

pub marking_none : (cs : List ℕ) (page end : ℕ) → page < length cs → 0 < end → end ≤ 2 ^ 32
    → Marking cs (last_at (headed end (drop page cs))) page end (replicate 256 0)
marking_none cs page end h s l =
    let e = headed_on end cs page h in
    let rest : List ℕ = drop (page + 1) cs in
    record {
      more = h;
      some = s;
      small = omega arith;
      long = length-replicate {A = ℕ} 256 0;
      before = λ j u v. zeros_at 256 j ∙ sym (rw e (last_before end rest j u));
      behind = λ j u. zeros_at 256 j;
      rest = λ j. rw e (sym (last_shift end (min (end - 1) 256) rest j (omega arith)));
    }

module _ (cs : List ℕ) (m : ℕ → ℕ) (page end : ℕ) (part : List ℕ) (k : Marking cs m page end part) where
  -- where the page does not end within the stretch
  module _ (far : 256 < end) where
    pub marking_all : (j : ℕ) → j < 256 → get_or part j 0 ≡ m j
    marking_all j h = k.before j (omega arith) h

    pub marking_rest : (j : ℕ) → last_at (headed (end - 256) (drop page cs)) j ≡ m (256 + j)
    marking_rest j =
        let e : min (end - 1) 256 ≡ 256 = omega arith in
        rw (headed_on (end - 256) cs page k.more) (sym (rw e at (k.rest j)))

  -- where it does: its end is marked
  module _ (near : end ≤ 256) where
    abbrev out : List ℕ
    out = set part (end - 1) 1

    ended : (j : ℕ) → m (end - 1 + j) ≡ last_at (1 ∷ drop (page + 1) cs) j
    ended j =
        let e : min (end - 1) 256 ≡ end - 1 = omega arith in
        let f : end - (end - 1) ≡ 1 = omega (arith, k.some) in
        rw f at (rw e at (k.rest j))

    behind_end : (j : ℕ) → m (end + j) ≡ last_at (drop (page + 1) cs) j
    behind_end j =
        let e : end - 1 + (1 + j) ≡ end + j = omega (arith, k.some) in
        let f : 1 + j - 1 ≡ j = omega arith in
        rw f at ((rw e at (ended (1 + j))) ∙ last_behind 1 (drop (page + 1) cs) (1 + j) (omega arith))

    -- the marks up to the end, and that there are none behind it
    marked_to : (j : ℕ) → j < end → get_or out j 0 ≡ m j
    marked_to j h =
        elim (ℕ_discrete (j + 1) end) [
          | yes e ↦
              let f : j ≡ end - 1 = omega arith in
              let g : end - 1 + 0 ≡ end - 1 = omega arith in
              rw f (get_or-set_same part (end - 1) 1 0 (omega (arith, k.long, k.some))
              ∙ sym ((rw g at (ended 0)) ∙ last_end 1 (drop (page + 1) cs) 0 refl))
          | no e ↦ get_or-set_other part (end - 1) j 1 0 (λ f. e (omega (arith, k.some)))
              ∙ k.before j (omega arith) (omega arith)
        ]

    unmarked : (j : ℕ) → end ≤ j → get_or out j 0 ≡ 0
    unmarked j h = get_or-set_other part (end - 1) j 1 0 (λ f. omega (arith, k.some)) ∙ k.behind j (omega arith)

    module _ (last : page + 1 ≡ length cs) where
      none_left : (j : ℕ) → m (end + j) ≡ 0
      none_left j = behind_end j ∙ ap (λ (l : List ℕ). last_at l j) (drop_of_length-le cs {i = page + 1} (omega arith))
          ∙ last_none j

      pub marking_end : (j : ℕ) → j < 256 → get_or out j 0 ≡ m j
      marking_end j h =
          elim (dec_lt j end) [
            | yes l ↦ marked_to j l
            | no l ↦
                let e : end + (j - end) ≡ j = omega arith in
                unmarked j (omega arith) ∙ sym (rw e at (none_left (j - end)))
          ]

      pub marking_over : (e j : ℕ) → last_at (headed e (drop (page + 1) cs)) j ≡ m (256 + j)
      marking_over e j =
          let f : end + (256 - end + j) ≡ 256 + j = omega arith in
          rw (headed_none e cs (page + 1) (omega arith)) (last_none j ∙ sym (rw f at (none_left (256 - end + j))))

    module _ (left : page + 1 < length cs) (counted : positive cs ≡ true)
        (short : get_or cs (page + 1) 0 < 2 ^ 32) where
      abbrev c : ℕ
      c = get_or cs (page + 1) 0

      page_on : (j : ℕ) → m (end + j) ≡ last_at (c ∷ drop (page + 1 + 1) cs) j
      page_on j = behind_end j ∙ ap (λ (l : List ℕ). last_at l j) (drop_front cs (page + 1) left)

      pub marking_more : Marking cs m (page + 1) (end + c) out
      marking_more =
          let s = positive_at cs counted (page + 1) left in
          record {
            more = left;
            some = omega (arith, k.some);
            small = omega arith;
            long = length-set part (end - 1) 1 ∙ k.long;
            before = λ j u v. elim (dec_lt j end) [
              | yes l ↦ marked_to j l
              | no l ↦
                  let e : end + (j - end) ≡ j = omega arith in
                  unmarked j (omega arith)
                  ∙ sym ((rw e at (page_on (j - end))) ∙ last_before c (drop (page + 1 + 1) cs) (j - end) (omega arith))
            ];
            behind = λ j u. unmarked j (omega arith);
            rest = λ j.
                let d : ℕ = min (end + c - 1) 256 in
                let e : end + (d - end + j) ≡ d + j = omega arith in
                let f : c - (d - end) ≡ end + c - d = omega arith in
                rw f at ((rw e at (page_on (d - end + j)))
                ∙ sym (last_shift c (d - end) (drop (page + 1 + 1) cs) j (omega arith)));
          }

-- ---- bases

pub base_more : (b : ℕ) (m : ℕ → ℕ) (ps : List ℕ) (i : ℕ)
    → base_at b m ps (i + 1) ≡ base_at b m ps i + m i * (get_or ps i 0 + 1)
unfolding base_at
base_more b m ps i = rw add-one

base_same : (b : ℕ) (m n : ℕ → ℕ) (ps qs : List ℕ) (i : ℕ) → ((j : ℕ) → j < i → m j ≡ n j)
    → ((j : ℕ) → j < i → get_or ps j 0 ≡ get_or qs j 0) → base_at b m ps i ≡ base_at b n qs i
unfolding base_at
base_same b m n ps qs zero e f = refl
base_same b m n ps qs (suc i) e f =
    rw (base_same b m n ps qs i (λ j h. e j (omega arith)) (λ j h. f j (omega arith)), e i (omega arith), f i (omega arith))

base_flat : (b : ℕ) (m : ℕ → ℕ) (ps : List ℕ) (i : ℕ) → ((j : ℕ) → j < i → m j ≡ 0) → base_at b m ps i ≡ b
unfolding base_at
base_flat b m ps zero e = refl
base_flat b m ps (suc i) e = rw (base_flat b m ps i (λ j h. e j (omega arith)), e i (omega arith)) (omega arith)

base_shift : (b : ℕ) (m : ℕ → ℕ) (ps : List ℕ) (i k : ℕ)
    → base_at (base_at b m ps i) (λ j. m (i + j)) (drop i ps) k ≡ base_at b m ps (i + k)
unfolding base_at
base_shift b m ps i zero = rw add-zero
base_shift b m ps i (suc k) =
    let e : i + suc k ≡ suc (i + k) = omega arith in
    rw (e, base_shift b m ps i k, get_or-drop i ps k 0)

-- ---- elements

pub get_d_raised : (b : ℕ) (ps : List ℕ) (i : ℕ) → i < length ps → get_or (raised b ps) i 0 ≡ b + get_or ps i 0
unfolding raised
get_d_raised b [] i h = absurd (omega arith)
get_d_raised b (p ∷ ps) zero h = refl
get_d_raised b (p ∷ ps) (suc i) h = get_d_raised b ps i (omega arith)

-- the base of the next page
next_base : (b k : ℕ) (cs ps : List ℕ) → suc k ≤ length ps
    → next b (raised b (take (suc k) ps)) ≡ base_at b (last_at (suc k ∷ cs)) ps (suc k)
unfolding base_at
next_base b k cs ps h =
    let l : length (take (suc k) ps) ≡ suc k = length-take-le (suc k) ps h in
    next_page b (take (suc k) ps)
    ∙ rw (
      next_last 0 (take (suc k) ps) k l,
      get_or-take (suc k) ps k 0 (omega arith),
      base_flat b (last_at (suc k ∷ cs)) ps k (λ j m. last_before (suc k) cs j (omega arith)),
      last_end (suc k) cs k (omega arith),
    )
    (omega arith)

-- the element of each position is it above its page's base
pub placed_at : (b : ℕ) (cs ps : List ℕ) → positive cs ≡ true → total cs ≡ length ps → (i : ℕ) → i < length ps
    → get_or (placed b cs ps) i 0 ≡ base_at b (last_at cs) ps i + get_or ps i 0
unfolding total placed
placed_at b [] ps p e i h = absurd (omega arith)
placed_at b (c ∷ cs) ps p e i h =
    elim (dec_lt i c) [
      | yes l ↦
          get_or-append ys zs 0 i (omega (arith, long)) ∙ get_d_raised b (take c ps) i (omega (arith, page_long))
          ∙ rw (get_or-take c ps i 0 l, base_flat b (last_at (c ∷ cs)) ps i (λ j m. last_before c cs j (omega arith)))
      | no l ↦
          let f : c + (i - c) ≡ i = omega arith in
          subst (λ n. get_or (ys ++ zs) n 0 ≡ base_at b (last_at (c ∷ cs)) ps n + get_or ps n 0) f (behind (i - c)
          (placed_at (next b ys) cs (drop c ps) t.1 (rw length-drop (omega arith)) (i - c)
          (rw length-drop (omega arith))))
    ]
  where
    t : (0 < c) × (positive cs ≡ true)
    t = positive_parts c cs p

    ys : List ℕ
    ys = raised b (take c ps)

    zs : List ℕ
    zs = placed (next b (raised b (take c ps))) cs (drop c ps)

    page_long : length (take c ps) ≡ c
    page_long = length-take-le c ps (omega arith)

    long : length ys ≡ c
    long = length_raised b (take c ps) ∙ page_long

    page_base : next b ys ≡ base_at b (last_at (c ∷ cs)) ps c
    page_base =
        let f : suc (c - 1) ≡ c = omega (arith, t.0) in
        subst (λ n. next b (raised b (take n ps)) ≡ base_at b (last_at (n ∷ cs)) ps n) f
        (next_base b (c - 1) cs ps (omega arith))

    on : (k : ℕ) → base_at (base_at b (last_at (c ∷ cs)) ps c) (last_at cs) (drop c ps) k ≡ base_at b (last_at (c ∷ cs)) ps (c + k)
    on k =
        base_same (base_at b (last_at (c ∷ cs)) ps c) (last_at cs) (λ j. last_at (c ∷ cs) (c + j)) (drop c ps) (drop c ps) k
        (λ j h. let e : c + j - c ≡ j = omega arith in sym (last_behind c cs (c + j) (omega arith) ∙ rw e)) (λ j h. refl)
        ∙ base_shift b (last_at (c ∷ cs)) ps c k

    behind : (k : ℕ) → get_or zs k 0 ≡ base_at (next b ys) (last_at cs) (drop c ps) k + get_or (drop c ps) k 0
        → get_or (ys ++ zs) (c + k) 0 ≡ base_at b (last_at (c ∷ cs)) ps (c + k) + get_or ps (c + k) 0
    behind k r =
        let f : c + k ≡ length ys + k = omega (arith, long) in
        ap (λ n. get_or (ys ++ zs) n 0) f ∙ get_or-append-add ys zs k 0 ∙ r ∙ rw (page_base, on k, get_or-drop c ps k 0)

-- ---- one stretch

module _ (g : Shape) (cs ps room : List ℕ) (q : Places g cs ps room) where
  pub placing : Placing 0 g.u cs ps
  placing = record {
    within = q.fitting.within;
    summed = q.summed;
    counted = q.counted;
    rises = q.rises;
  }

  pub places_long : length (placed 0 cs ps) ≡ g.n
  places_long = length_placed 0 cs ps q.summed ∙ q.count

-- from a spot on with positions left
module _ (s U : ℕ) (cs ps : List ℕ) (p : Spot) (at : SpotAt s U cs ps p) (h : p.done < length ps) where
  abbrev es : List ℕ
  es = placed s cs ps

  abbrev i : ℕ
  i = p.done

  long : length es ≡ length ps
  long = length_placed s cs ps at.placing.summed

  -- a page is left
  pub spot_page : p.turn.page < length cs
  spot_page =
      elim (dec_lt p.turn.page (length cs)) [
        | yes l ↦ l
        | no l ↦
            let k : ℕ = length ps - 1 in
            let e : i + (k - i) ≡ k = omega arith in
            let one = last_last cs at.placing.counted k (omega (arith, at.placing.summed)) in
            let gone = headed_none p.turn.end cs p.turn.page (omega arith) in
            let none = rw (gone, e, one) at (at.page h (k - i)) in
            absurd (omega (arith, none, last_none (k - i)))
      ]

  -- the next k positions, of which the part marks those that end a page
  module _ (k : ℕ) (w : k ≡ min 256 (length ps - p.done)) (t : Turn) (part : List ℕ)
      (m : Marked cs p.turn t part) where
    abbrev qs : List ℕ
    qs = take k (drop i ps)

    marks : (j : ℕ) → j < 256 → get_or part j 0 ≡ last_at cs (i + j)
    marks j l = m.marks j l ∙ at.page h j

    stretch_long : length qs ≡ k
    stretch_long = length-take-le k (drop i ps) (rw length-drop (omega arith))

    position_at : (j : ℕ) → j < k → get_or qs j 0 ≡ get_or ps (i + j) 0
    position_at j l = get_or-take k (drop i ps) j 0 l ∙ get_or-drop i ps j 0

    base_on : (j : ℕ) → j ≤ k → base_at p.base (marks_of part) qs j ≡ base_at s (last_at cs) ps (i + j)
    base_on j l =
        rw at.base (base_same (base_at s (last_at cs) ps i) (marks_of part) (λ n. last_at cs (i + n)) qs (drop i ps) j
        (λ n u. marks n (omega arith)) (λ n u. get_or-take k (drop i ps) n 0 (omega arith)))
        ∙ base_shift s (last_at cs) ps i j

    element_at : (j : ℕ) → j < k → base_at p.base (marks_of part) qs j + get_or qs j 0 ≡ get_or es (i + j) 0
    element_at j l =
        rw (base_on j (omega arith), position_at j l)
        (sym (placed_at s cs ps at.placing.counted at.placing.summed (i + j) (omega arith)))

    pub stretch_bounded : Bounded p.base part qs
    stretch_bounded j l =
        let m : j < k = omega (arith, stretch_long) in (
          rw (marks j (omega arith)) (last_le cs (i + j)),
          rw (element_at j m)
              (omega (
                arith,
                (rising_at 0 U es at.placing.rises (i + j) (omega (arith, long))).1,
                at.placing.within,
              )),
        )

    pub stretch_placed : (out : List ℕ) → length out ≡ 256 → Based p.base part qs out
        → take k out ≡ take k (drop i es)
    stretch_placed out l f =
        let m : length (take k out) ≡ k = length-take-le k out (omega arith) in
        let n : length (take k (drop i es)) ≡ k =
        length-take-le k (drop i es) (rw length-drop (omega (arith, long))) in
        ext_get_or 0 (take k out) (take k (drop i es)) (omega arith) (λ j u.
        let v : j < k = omega arith in
        get_or-take k out j 0 v ∙ f j (omega (arith, stretch_long)) ∙ element_at j v
        ∙ sym (get_or-take k (drop i es) j 0 v ∙ get_or-drop i es j 0))

    pub spot_next : (b : ℕ) → b ≡ base_at p.base (marks_of part) qs (length qs)
        → SpotAt s U cs ps (record { done = i + k; turn = t; base = b })
    spot_next b e = record {
      placing = at.placing;
      within = omega arith;
      some = m.some;
      small = m.small;
      page = λ l j.
          let f : i + (256 + j) ≡ i + k + j = omega arith in
          m.rest j ∙ at.page h (256 + j) ∙ ap (last_at cs) f;
      base = e ∙ rw stretch_long (base_on k (omega arith));
    }
