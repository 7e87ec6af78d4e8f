-- Four maps joined are three joins, so a change of one range is taken through one join after another, each of which
-- moves the index by its width.
use Rattle.std.proofs.Common.{◌≡◌, ℕ, ◌-◌, ◌<◌, ◌≤◌, Option, None}
use Rattle.tickets.specs.Placed.{Placed}
use Rattle.nodes.specs.declared.spare.Spare.{Spare}
use Rattle.nodes.specs.Tree.{SetsAt, Same, HandsOut, SwapsOne, EmptyFrom}
use Rattle.nodes.specs.File.{joined}
use Rattle.nodes.proofs.Joined.{same_first, same_rest, sets_first, sets_rest, hands_first, hands_rest, swaps_first, swaps_rest, empty_joined}

abbrev pub four : {A : Type 0} → ℕ → ℕ → ℕ → (ℕ → A) → (ℕ → A) → (ℕ → A) → (ℕ → A) → ℕ → A
four d w1 w2 a b c x = joined d a (joined w1 b (joined w2 c x))

module _ {A : Type 0} (d w1 w2 : ℕ) (a b c x y : ℕ → A) where
  pub same_1 : Same a y → Same (four d w1 w2 a b c x) (four d w1 w2 y b c x)
  same_1 s = same_first d a y (joined w1 b (joined w2 c x)) s

  pub same_2 : Same b y → Same (four d w1 w2 a b c x) (four d w1 w2 a y c x)
  same_2 s = same_rest d a (joined w1 b (joined w2 c x)) (joined w1 y (joined w2 c x)) (same_first w1 b y (joined w2 c x) s)

  pub same_3 : Same c y → Same (four d w1 w2 a b c x) (four d w1 w2 a b y x)
  same_3 s =
      same_rest d a (joined w1 b (joined w2 c x)) (joined w1 b (joined w2 y x))
      (same_rest w1 b (joined w2 c x) (joined w2 y x) (same_first w2 c y x s))

  pub same_4 : Same x y → Same (four d w1 w2 a b c x) (four d w1 w2 a b c y)
  same_4 s =
      same_rest d a (joined w1 b (joined w2 c x)) (joined w1 b (joined w2 c y))
      (same_rest w1 b (joined w2 c x) (joined w2 c y) (same_rest w2 c x y s))

  module _ (i : ℕ) (v : A) where
    pub sets_1 : i < d → SetsAt a y i v → SetsAt (four d w1 w2 a b c x) (four d w1 w2 y b c x) i v
    sets_1 h s = sets_first d a y (joined w1 b (joined w2 c x)) i v h s

    pub sets_2 : d ≤ i → i - d < w1 → SetsAt b y (i - d) v → SetsAt (four d w1 w2 a b c x) (four d w1 w2 a y c x) i v
    sets_2 h k s =
        sets_rest d a (joined w1 b (joined w2 c x)) (joined w1 y (joined w2 c x)) i v h (sets_first w1 b y (joined w2 c x) (i - d) v k s)

    pub sets_3 : d ≤ i → w1 ≤ i - d → i - d - w1 < w2 → SetsAt c y (i - d - w1) v → SetsAt (four d w1 w2 a b c x) (four d w1 w2 a b y x) i v
    sets_3 h k l s =
        sets_rest d a (joined w1 b (joined w2 c x)) (joined w1 b (joined w2 y x)) i v h
        (sets_rest w1 b (joined w2 c x) (joined w2 y x) (i - d) v k (sets_first w2 c y x (i - d - w1) v l s))

    pub sets_4 : d ≤ i → w1 ≤ i - d → w2 ≤ i - d - w1 → SetsAt x y (i - d - w1 - w2) v → SetsAt (four d w1 w2 a b c x) (four d w1 w2 a b c y) i v
    sets_4 h k l s =
        sets_rest d a (joined w1 b (joined w2 c x)) (joined w1 b (joined w2 c y)) i v h
        (sets_rest w1 b (joined w2 c x) (joined w2 c y) (i - d) v k (sets_rest w2 c x y (i - d - w1) v l s))

module _ (d w1 w2 : ℕ) (a b c x y : ℕ → Option Placed) (from : ℕ) (spare : Spare Placed) where
  pub hands_1 : ((i : ℕ) → d ≤ i → a i ≡ None) → HandsOut a y from spare → HandsOut (four d w1 w2 a b c x) (four d w1 w2 y b c x) from spare
  hands_1 bound s = hands_first d a y (joined w1 b (joined w2 c x)) bound from spare s

  pub hands_2 : ((i : ℕ) → w1 ≤ i → b i ≡ None) → HandsOut b y (from - d) spare → HandsOut (four d w1 w2 a b c x) (four d w1 w2 a y c x) from spare
  hands_2 bound s =
      hands_rest d a (joined w1 b (joined w2 c x)) (joined w1 y (joined w2 c x)) from spare
      (hands_first w1 b y (joined w2 c x) bound (from - d) spare s)

  pub hands_3 : ((i : ℕ) → w2 ≤ i → c i ≡ None) → HandsOut c y (from - d - w1) spare → HandsOut (four d w1 w2 a b c x) (four d w1 w2 a b y x) from spare
  hands_3 bound s =
      hands_rest d a (joined w1 b (joined w2 c x)) (joined w1 b (joined w2 y x)) from spare
      (hands_rest w1 b (joined w2 c x) (joined w2 y x) (from - d) spare (hands_first w2 c y x bound (from - d - w1) spare s))

  pub hands_4 : HandsOut x y (from - d - w1 - w2) spare → HandsOut (four d w1 w2 a b c x) (four d w1 w2 a b c y) from spare
  hands_4 s =
      hands_rest d a (joined w1 b (joined w2 c x)) (joined w1 b (joined w2 c y)) from spare
      (hands_rest w1 b (joined w2 c x) (joined w2 c y) (from - d) spare (hands_rest w2 c x y (from - d - w1) spare s))

module _ (d w1 w2 : ℕ) (a b c x y : ℕ → Option Placed) (before after : Placed) where
  pub swaps_1 : ((i : ℕ) → d ≤ i → a i ≡ None) → SwapsOne a y before after → SwapsOne (four d w1 w2 a b c x) (four d w1 w2 y b c x) before after
  swaps_1 bound s = swaps_first d a y (joined w1 b (joined w2 c x)) bound before after s

  pub swaps_2 : ((i : ℕ) → w1 ≤ i → b i ≡ None) → SwapsOne b y before after → SwapsOne (four d w1 w2 a b c x) (four d w1 w2 a y c x) before after
  swaps_2 bound s =
      swaps_rest d a (joined w1 b (joined w2 c x)) (joined w1 y (joined w2 c x)) before after
      (swaps_first w1 b y (joined w2 c x) bound before after s)

  pub swaps_3 : ((i : ℕ) → w2 ≤ i → c i ≡ None) → SwapsOne c y before after → SwapsOne (four d w1 w2 a b c x) (four d w1 w2 a b y x) before after
  swaps_3 bound s =
      swaps_rest d a (joined w1 b (joined w2 c x)) (joined w1 b (joined w2 y x)) before after
      (swaps_rest w1 b (joined w2 c x) (joined w2 y x) before after (swaps_first w2 c y x bound before after s))

  pub swaps_4 : SwapsOne x y before after → SwapsOne (four d w1 w2 a b c x) (four d w1 w2 a b c y) before after
  swaps_4 s =
      swaps_rest d a (joined w1 b (joined w2 c x)) (joined w1 b (joined w2 c y)) before after
      (swaps_rest w1 b (joined w2 c x) (joined w2 c y) before after (swaps_rest w2 c x y before after s))

pub empty_four : (d w1 w2 : ℕ) (a b c x : ℕ → Option Placed) (from : ℕ)
    → EmptyFrom a from → EmptyFrom b (from - d) → EmptyFrom c (from - d - w1) → EmptyFrom x (from - d - w1 - w2)
    → EmptyFrom (four d w1 w2 a b c x) from
empty_four d w1 w2 a b c x from p q r s =
    empty_joined d a (joined w1 b (joined w2 c x)) from p
    (empty_joined w1 b (joined w2 c x) (from - d) q (empty_joined w2 c x (from - d - w1) r s))
