-- Every plan of a length change and of a write is made of good steps.
use Rattle.std.specs.Prelude.{Option, Some, None}
use mathlib.Core.Path.{◌≡◌, refl, sym, ap, ◌∙◌}
use mathlib.Core.Logic.{◌↔◌, inl, inr}
use mathlib.Core.Bool.{false}
use mathlib.Core.List.{List, [], ◌∷◌, ◌++◌, append-nil}
use Prim.Native.Nat.{ℕ, zero, suc, ◌+◌, ◌-◌, ◌*◌, ◌/◌, ◌≤◌, ◌<◌}
use native.Mathlib.Omega.{arith}
use native.Mathlib.Nat.{zero-add, sub-zero, mul-zero, mul-pos}
use lib.ListN.{length, take, replicate}
use lib.Seq.{take_all}
use borrow.Author.Tests.{lt-ltb, le-ltb, eq-eqb, ne_eqb}
use Rattle.model.specs.Lists.{concat, sum, occ}
use Rattle.model.specs.Layout.{Layout, Fits}
use Rattle.model.specs.Tree.{span, least}
use Rattle.model.specs.Board.{greatest, root_address, size_address, root_height, root_block, size, inode_of, contents, live_blocks}
use Rattle.model.specs.Store.{Store, store, performed}
use Rattle.model.specs.Plan.{Plan, plan, Step, step, plan_epochs, afterwards}
use Rattle.model.specs.Fresh.{stored}
use Rattle.model.specs.InPlace.{in_place}
use Rattle.model.specs.Change.{growing, growth_to, growth, grown_inode, single_block, single_word, chosen_way, grown_plan, some_plan, write_plan, cleared, length_plan}
use Rattle.model.specs.GivenUp.{way_gives, length_gives, some_gives, write_gives}
use Rattle.model.specs.Cut.{overwritten}
use Rattle.model.proofs.Cases.{split, decide}
use Rattle.model.proofs.Perform.{All}
use Rattle.model.proofs.Descent.{hole≢block}
use Rattle.model.proofs.Built.{used, used_add}
use Rattle.model.proofs.Shown.{words_pos, count_kept, leaf_of, leaf_live, root_block_law, size_block}
use Rattle.model.proofs.Accepting.{FileOn}
use Rattle.model.proofs.Supplied.{Supply}
use Rattle.model.proofs.Steps.{committed, all_committed, length_committed}
use Rattle.model.proofs.GoodSteps.{GoodStep, GoodTurn, GoodSteps, StepTo, InBlocks, the_file, only_file, only_file_law, only_others, step_one, step_quiet}
use Rattle.model.proofs.StepBlocks.{Takes, blocks_of, takes_blocks, steps_blocks, in_place_live}
use Rattle.model.proofs.Writing.{Writing, Spanned, Growing}
use Rattle.model.proofs.SizeWays.{shorten_good, lengthen_empty_good, lengthen_good}
use Rattle.model.proofs.GrowthWay.{growth_step, growth_performed, growth_takes, growth_counts, growing_more, growing_cases, growth_good, growth_reaches, growth_supply}
use Rattle.model.proofs.AfterGrowth.{single_past, grown_board}
use Rattle.model.proofs.Ways.{length_contents, lengthened, spliced_cuts, spliced_lengthens, OneStep, single_way, way_good, taken_from}

-- ---- Good plans

-- Its steps are good; of the blocks that are not live it stores to those that it takes, the first of the fresh ones, and to no other; and the live blocks
-- are those before and those taken, less those given up
pub record GoodPlan (g : Layout) (b : List ℕ) (f : ℕ) (fresh : ℕ → ℕ) (wanted given : List ℕ) (p : Plan) : Type 0 where
  pub steps_good : GoodSteps g (the_file f) b p.steps (only_file f wanted (contents g b)) (InBlocks g b)
  pub takes : (q : ℕ) → occ q (live_blocks g b) ≡ 0 → (0 < occ q (blocks_of g (concat (plan_epochs p.steps)))) ↔ (0 < used fresh q 0 p.taken)
  pub lives : (q : ℕ) → occ q (live_blocks g (all_committed b p.steps)) + occ q given ≡ occ q (live_blocks g b) + used fresh q 0 p.taken

pub some_of_product : (w a u : ℕ) → 0 < w → a ≡ w * u → (0 < a) ↔ (0 < u)
some_of_product w a u pos e = (λ l. elim (split u 0) [ inl z ↦ let z' : u ≡ 0 = omega arith in absurd (omega (arith, rw z' at e, mul-zero w)) | inr k ↦ k ], λ l. rw e (mul-pos pos l))

-- an empty plan
none_good : (g : Layout) (b : List ℕ) (f : ℕ) (fresh : ℕ → ℕ) (wanted : List ℕ) → contents g b f ≡ wanted → GoodPlan g b f fresh wanted [] (plan [] 0)
unfolding plan GoodSteps plan_epochs concat occ used sum all_committed
none_good g b f fresh wanted e = record {
  steps_good = λ i u. elim (decide i f) [ inl z ↦ rw (z, only_file_law f wanted (contents g b)) e | inr n ↦ rw (only_others f wanted (contents g b) i n) ];
  takes = λ q z. (λ l. l, λ l. l);
  lives = λ q. refl;
}

module _ {g : Layout} (fit : Fits g) {f : ℕ} {fresh : ℕ → ℕ} {wanted given : List ℕ} {p : Plan} where
  -- how often one step stores to a block that is not live
  one_blocks : {b : List ℕ} {c : ℕ} → OneStep g b f fresh c wanted given p → (q : ℕ) → occ q (live_blocks g b) ≡ 0
      → occ q (blocks_of g (concat (plan_epochs p.steps))) ≡ g.words * used fresh q c (p.taken - c)
  unfolding plan_epochs concat occ
  one_blocks {b} {c} w q z = rw w.steps_are (omega (arith, steps_blocks g (words_pos g fit) fresh q w.only [], takes_blocks g (words_pos g fit) fresh q b c p.taken w.only w.takes z))

  one_plan : {b : List ℕ} → OneStep g b f fresh 0 wanted given p → GoodPlan g b f fresh wanted given p
  unfolding GoodSteps all_committed
  one_plan w = record {
    steps_good = rw w.steps_are (step_one w.good);
    takes = λ q z. some_of_product g.words _ (used fresh q 0 p.taken) (words_pos g fit) (rw sub-zero at (one_blocks w q z));
    lives = λ q. rw w.steps_are (rw sub-zero at (w.lives q));
  }

  -- a step that leaves the file as it reads and takes k blocks, and a plan of one step that takes the next
  two_plan : {b : List ℕ} {s : Step} {k : ℕ} → GoodStep g b f s (contents g b f) → Takes g b fresh 0 k s
      → ((q : ℕ) → occ q (live_blocks g (committed b s)) ≡ occ q (live_blocks g b) + used fresh q 0 k)
      → OneStep g (committed b s) f fresh k wanted given p → k ≤ p.taken → GoodPlan g b f fresh wanted given (plan (s ∷ p.steps) p.taken)
  unfolding plan GoodSteps all_committed
  two_plan {b} {s} {k} first takes counts w le = record {
    steps_good = rw w.steps_are (step_quiet first refl, second (step_one w.good));
    lives = λ q.
        let total : used fresh q 0 p.taken ≡ used fresh q 0 k + used fresh q k (p.taken - k) =
        ap (used fresh q 0) (omega arith) ∙ used_add fresh q 0 k (p.taken - k) ∙ ap (λ (x : ℕ). used fresh q 0 k + used fresh q x (p.taken - k)) (zero-add k) in
        rw w.steps_are (omega (arith, w.lives q, counts q, total));
    takes = λ q z.
        let total : used fresh q 0 p.taken ≡ used fresh q 0 k + used fresh q k (p.taken - k) =
        ap (used fresh q 0) (omega arith) ∙ used_add fresh q 0 k (p.taken - k) ∙ ap (λ (x : ℕ). used fresh q 0 k + used fresh q x (p.taken - k)) (zero-add k) in
        let own : occ q (blocks_of g (s.hidden ++ (s.commit ∷ []))) ≡ g.words * used fresh q 0 k = rw sub-zero at (takes_blocks g (words_pos g fit) fresh q b 0 k s takes z) in
        let both = steps_blocks g (words_pos g fit) fresh q s p.steps in
        elim (split (used fresh q 0 k) 0) [
          | inl none ↦
              let zero-own : used fresh q 0 k ≡ 0 = omega arith in
              let same : used fresh q 0 p.taken ≡ used fresh q k (p.taken - k) = omega (arith, total) in
              let none-own : occ q (blocks_of g (s.hidden ++ (s.commit ∷ []))) ≡ 0 = own ∙ rw (zero-own, mul-zero g.words) in
              some_of_product g.words _ (used fresh q 0 p.taken) (words_pos g fit)
              (rw same (omega (arith, both, none-own, one_blocks w q (omega (arith, counts q, z)))))
          | inr more ↦ (λ l. omega (arith, total), λ l. omega (arith, both, own, mul-pos (words_pos g fit) more))
        ];
  }
    where
      -- what is said on the board that the first step leaves, said on b
      second : StepTo g (the_file f) (committed b s) w.only (only_file f wanted (contents g (committed b s))) (InBlocks g (committed b s)) → StepTo g (the_file f) (committed b s) w.only (only_file f wanted (contents g b)) (InBlocks g b)
      second y = record {
        hides = y.hides;
        once = y.once;
        within = rw (count_kept g (committed b s) b (length_committed b s)) at y.within;
        board = y.board;
        walks = y.walks;
        reads = λ e u. elim (decide e f) [
          | inl z ↦ rw (z, only_file_law f wanted (contents g b)) (rw (z, only_file_law f wanted (contents g (committed b s))) at (y.reads e u))
          | inr n ↦ rw (only_others f wanted (contents g b) e n) ((rw (only_others f wanted (contents g (committed b s)) e n) at (y.reads e u)) ∙ (first.outcome.kept e u n).reads)
        ];
      }

-- ---- Length change

module _ (g : Layout) (b : List ℕ) (f n : ℕ) where
  pub cleared_empty : (s : ℕ) → s ≡ 0 → cleared g b f s n ≡ store (root_address g b f) 0 ∷ []
  unfolding cleared
  cleared_empty zero e = refl
  cleared_empty (suc s) e = absurd (omega arith)

  pub cleared_live : (s : ℕ) → 0 < s → cleared g b f s n ≡ in_place g.words b (λ h l c. 0) (root_height g b f) (root_block g b f) s (replicate (n - s) 0) 0 (root_address g b f)
  unfolding cleared
  cleared_live zero l = absurd (omega arith)
  cleared_live (suc s) l = refl

module _ {g : Layout} {b : List ℕ} {f : ℕ} (on : FileOn g b f) (n : ℕ) (most : n ≤ greatest g) (fresh : ℕ → ℕ) where
  open on use {fit, file}

  -- a step of stores to live blocks, committed by the size
  sized_plan : (ss : List Store) (wanted given : List ℕ) → wanted ≡ lengthened g fit b f n → All (λ s. 0 < occ (s.at / g.words) (live_blocks g b)) ss
      → GoodTurn g b f (step ss (size_address g b f) n) wanted (λ q. 0) (λ q. occ q given)
      → GoodPlan g b f fresh (lengthened g fit b f n) given (plan (step ss (size_address g b f) n ∷ []) 0)
  unfolding plan step store stored used sum
  sized_plan ss wanted given is lives s = one_plan fit (record {
    only = step ss (size_address g b f) n;
    steps_are = refl;
    good = rw is at s.good;
    lives = s.lives;
    takes = record { pages = []; others = ss; is = refl; count = refl; others_live = lives; commit_live = rw (size_block g fit b f) (leaf_live g b (f / g.inodes) (leaf_of g fit f file)) };
  })

  -- n > s
  lengthen_plan : size g b f ≤ n → GoodPlan g b f fresh (lengthened g fit b f n) [] (plan (step (cleared g b f (size g b f) n) (size_address g b f) n ∷ []) 0)
  unfolding All store occ
  lengthen_plan more = elim (split (size g b f) 0) [
    | inl z ↦
        let e : size g b f ≡ 0 = omega arith in
        rw (cleared_empty g b f n (size g b f) e) (sized_plan _ _ [] (spliced_lengthens g fit b f n more) (rw (root_block_law g fit b f) (leaf_live g b (f / g.inodes) (leaf_of g fit f file)), tt)
        (lengthen_empty_good on n e most))
    | inr l ↦ rw (cleared_live g b f n (size g b f) l) (sized_plan _ _ [] (spliced_lengthens g fit b f n more)
        (in_place_live g b f file (λ h k c. 0) (replicate (n - size g b f) 0) 0 l) (lengthen_good on n l more most))
  ]

  nothing : n ≡ size g b f → contents g b f ≡ lengthened g fit b f n
  nothing e =
      let z : n - length (contents g b f) ≡ 0 = omega (arith, length_contents g fit b f) in
      rw z (sym (take_all n (contents g b f) (omega (arith, length_contents g fit b f))) ∙ sym (append-nil (take n (contents g b f))))

  pub length_good : GoodPlan g b f fresh (take n (contents g b f) ++ replicate (n - length (contents g b f)) 0) (length_gives g b f n) (length_plan g b f n)
  unfolding length_plan length_gives All
  length_good = elim (decide n (size g b f)) [
    | inl e ↦ rw (eq-eqb n (size g b f) e, le-ltb n (size g b f) (omega arith)) (none_good g b f fresh (lengthened g fit b f n) (nothing e))
    | inr d ↦ elim (split (size g b f) n) [
      | inl more ↦ rw (ne_eqb n (size g b f) d, le-ltb n (size g b f) more) (lengthen_plan more)
      | inr less ↦ rw (ne_eqb n (size g b f) d, lt-ltb n (size g b f) less) (sized_plan [] _ _ (spliced_cuts g fit b f n (omega arith)) tt (shorten_good on n (omega arith) (omega arith)))
    ]
  ]

-- ---- Write

-- the plan takes at least what growth takes
pub growth_first : (g : Layout) (fresh : ℕ → ℕ) (b : List ℕ) (f o : ℕ) (new : List ℕ) → (growth g fresh (inode_of g b f) (o + length new)).taken ≤ (grown_plan g fresh b (inode_of g b f) o new).taken
unfolding grown_plan afterwards plan
growth_first g fresh b f o new = taken_from g fresh _ (grown_inode g fresh (inode_of g b f) (o + length new)) o new (growth g fresh (inode_of g b f) (o + length new)).taken

module _ {g : Layout} {b : List ℕ} {f o : ℕ} {new : List ℕ} (w : Writing g b f o new) (some : 0 < length new) {fresh : ℕ → ℕ} {lim : ℕ} (supply : Supply g b fresh 0 lim) where
  open w.on use {fit}

  abbrev e : ℕ
  e = o + length new

  -- the way on board c, once k fresh blocks are taken, and the blocks that it gives up
  abbrev way : List ℕ → ℕ → Plan
  way c k = chosen_way g fresh c (inode_of g c f) o new k

  abbrev gives : List ℕ → List ℕ
  gives c = way_gives g c (inode_of g c f) o new

  abbrev wanted : List ℕ
  wanted = overwritten o new (contents g b f)

  abbrev Wanted : Plan → List ℕ → Type 0
  Wanted p given = p.taken ≤ lim → GoodPlan g b f fresh wanted given p

  -- a single word, before which there is no growth
  single_reach : (K : ℕ) → single_block g b f o e ≡ Some K → Spanned g b f e
  single_reach K is l = elim (split e (span g.words (root_height g b f))) [
    | inl u ↦ u
    | inr m ↦ absurd (hole≢block K (sym (single_past g b f o e (omega arith) m) ∙ is))
  ]

  single_plan : (K : ℕ) → single_block g b f o e ≡ Some K → Wanted (single_word g b K o new) []
  single_plan K is room = one_plan fit (single_way w some (single_reach K is) supply refl K is room)

  -- no growth
  pub still_plan : growing g (inode_of g b f) e ≡ false → grown_plan g fresh b (inode_of g b f) o new ≡ way b 0
  unfolding grown_plan growth grown_inode plan afterwards plan_epochs concat performed
  still_plan still = rw still

  still_gives : growing g (inode_of g b f) e ≡ false → some_gives g fresh b f None o new ≡ gives b
  unfolding some_gives growth grown_inode plan plan_epochs concat performed
  still_gives still = rw still

  no_growth : growing g (inode_of g b f) e ≡ false → Spanned g b f e → Wanted (grown_plan g fresh b (inode_of g b f) o new) (some_gives g fresh b f None o new)
  no_growth still reach = rw (still_plan still, still_gives still) (λ room. one_plan fit (way_good w some reach supply room))

  -- growth
  module _ (grow : Growing g b f e) where
    abbrev h : ℕ
    h = least g.words g.height e

    abbrev p : Plan
    p = growth_to g fresh (inode_of g b f) h

    abbrev g_step : Step
    g_step = growth_step g fresh b f h

    -- the board that it leaves
    abbrev c : List ℕ
    c = committed b g_step

    pub growth_is : growth g fresh (inode_of g b f) e ≡ p
    unfolding growth
    growth_is = rw (growing_more grow)

    module _ (enough : p.taken ≤ lim) where
      inode_is : grown_inode g fresh (inode_of g b f) e ≡ inode_of g c f
      inode_is = rw (growth_is, growth_performed g fresh b f h) at (grown_board w some supply (rw growth_is enough)).inode

      pub grown_plan_law : grown_plan g fresh b (inode_of g b f) o new ≡ afterwards p (way c p.taken)
      unfolding grown_plan
      grown_plan_law = rw (growth_is, growth_performed g fresh b f h, inode_is)

      grown_gives : some_gives g fresh b f None o new ≡ gives c
      unfolding some_gives
      grown_gives = rw (growth_is, growth_performed g fresh b f h, inode_is)

      -- the write on that board
      pub grown_writing : Writing g c f o new
      grown_writing = record { on = record { fit = fit; board = (growth_good grow supply enough).outcome.board; file = w.on.file }; small = w.small; most = w.most }

      after_growth : (afterwards p (way c p.taken)).taken ≤ lim → GoodPlan g b f fresh wanted (gives c) (afterwards p (way c p.taken))
      unfolding growth_to plan afterwards
      after_growth room =
          let first : GoodStep g b f g_step (contents g b f) = growth_good grow supply enough in
          two_plan fit first (growth_takes w.on fresh h) (growth_counts grow supply enough)
          (rw (← first.outcome.reads) (way_good grown_writing some (λ l. growth_reaches grow supply enough) (growth_supply grow supply enough) room))
          (taken_from g fresh c (inode_of g c f) o new p.taken)

    grows : Wanted (grown_plan g fresh b (inode_of g b f) o new) (some_gives g fresh b f None o new)
    grows room =
        let enough : p.taken ≤ lim = omega (arith, room, growth_first g fresh b f o new, ap (λ (x : Plan). x.taken) growth_is) in
        rw (grown_plan_law enough, grown_gives enough) (after_growth enough (rw (grown_plan_law enough) at room))

  pub write_some_law : (end : Option ℕ) → single_block g b f o e ≡ end → Wanted (some_plan g fresh b f end o new) (some_gives g fresh b f end o new)
  unfolding some_plan some_gives
  write_some_law (Some K) is = single_plan K is
  write_some_law None is = elim (growing_cases w) [ inl still ↦ no_growth still.0 still.1 | inr grow ↦ grows grow ]

pub write_good : {g : Layout} {b : List ℕ} {f o : ℕ} {new : List ℕ} → Writing g b f o new → {fresh : ℕ → ℕ} {lim : ℕ} → Supply g b fresh 0 lim → (write_plan g fresh b f o new).taken ≤ lim
    → GoodPlan g b f fresh (overwritten o new (contents g b f)) (write_gives g fresh b f o new) (write_plan g fresh b f o new)
unfolding write_plan write_gives plan overwritten
write_good {g} {b} {f} {o} {new = []} w {fresh} supply room = none_good g b f fresh _ refl
write_good {g} {b} {f} {o} {new = x ∷ new} w supply room = write_some_law w (omega arith) supply (single_block g b f o (o + suc (length new))) refl room
