-- Which words after a subcommand the parser refuses.
use Rattle.std.proofs.Common.{ℕ, ◌≡◌, ◌==◌, inl, inr, ◌∙◌, ◌++◌, false, true, List, [], ◌∷◌, fold, codes, refl, sym, ap, subst, Some, None, bytes_eq, append_assoc, IsUtf8, All, MatchOption}
use Rattle.std.proofs.lemmas.List.{append-nil}
use Rattle.std.proofs.lemmas.List.Elements.{All-head, All-tail}
use Rattle.std.proofs.lemmas.Bool.{cases_Bool}
use Rattle.clap.specs.Words.{fault_of, Text, Kinds, Rule, Shape}
use Rattle.clap.specs.Faults.{level_fault, walk_fault}
use Rattle.clap.specs.Kinds.{or_else}
use Rattle.clap.specs.Simple.{built, names_of, built_leaf, inherited, with_leaf_noted, marked_built, new_shape}
use Rattle.clap.specs.Walk.{Held, Names, idle, Walk, walked, nothing_held}
use Rattle.clap.specs.declared.error.kind.ErrorKind.{ErrorKind}
use Rattle.clap.specs.declared.error.kind.ErrorKind.TheVariants as kind
use Rattle.clap.proofs.OnLiterals.{clap_on_literals}
use Rattle.vme_engines.specs.CommandLines.{Word, is_path, is_separator, path_in}
use Rattle.vme_engines.specs.Subcommands.{command_line, file_shape}
use Rattle.vme_engines.proofs.CommandWords.{IsFlag, is_long, is_short, IsPlain, WordKind, separator, path, flag, word_kind}

-- the parse has some fault
abbrev pub Fails : Kinds → Type 0
Fails kinds = (k : ErrorKind) × (ks : Kinds) × (kinds ≡ k ∷ ks)

-- ---- a command line fails as the words after its subcommand do

-- the walk at a subcommand, with the words after it so far
abbrev stopped_at : Held → ℕ → Text → List Text → Walk
stopped_at held position name words =
    record { held = held; waiting = idle; position = position; is_trailing = false; stopped = Some (name, words) }

-- a walk that met a subcommand collects the words after it
stopped_walk :
    (rules : List Rule) (names : Names) (h : Held) (n : ℕ) (name : Text) (acc rest : List Text)
    → fold (walked rules names) (stopped_at h n name acc) rest ≡ stopped_at h n name (acc ++ rest)
unfolding clap_on_literals
stopped_walk rules names h n name acc [] = ap (stopped_at h n name) (sym (append-nil acc))
stopped_walk rules names h n name acc (word ∷ rest) =
    stopped_walk rules names h n name (acc ++ word ∷ []) rest ∙ ap (stopped_at h n name) (append_assoc acc (word ∷ []) rest)

-- a walk that met a subcommand finds no fault in the words after it
stopped_fault :
    (s : Shape) (names : Names) (h : Held) (n : ℕ) (name : Text) (acc rest : List Text)
    → walk_fault s names (stopped_at h n name acc) rest ≡ []
unfolding clap_on_literals
stopped_fault s names h n name acc [] = refl
stopped_fault s names h n name acc (word ∷ rest) = stopped_fault s names h n name (acc ++ word ∷ []) rest

-- the faults of the words after a subcommand
abbrev pub level : Shape → List Word → Kinds
level s words =
    level_fault (built_leaf (inherited (with_leaf_noted (marked_built command_line.top)) s)) [] nothing_held words false []

-- `or_else` returns its first faults if there are no second ones
or_none : (kinds : Kinds) → or_else kinds [] ≡ kinds
or_none [] = refl
or_none (k ∷ ks) = refl

-- the command line as the parser completes it
abbrev top : Shape
top = (built command_line).top

-- the names of the subcommands and arguments of the command line
abbrev names : Names
names = names_of (built command_line)

-- a command line of `cycles` has the faults of the words after it
pub cycles_level : (p : Word) (words : List Word)
    → fault_of command_line (p ∷ codes "cycles" ∷ words) ≡ level (new_shape (codes "cycles")) words
unfolding clap_on_literals
cycles_level p words =
    rw (stopped_walk top.rules names nothing_held 1 (codes "cycles") [] words, stopped_fault top names nothing_held 1 (codes "cycles") [] words)
    (or_none (level (new_shape (codes "cycles")) words))

-- a command line of `step` has the faults of the words after it
pub step_level : (p : Word) (words : List Word)
    → fault_of command_line (p ∷ codes "step" ∷ words) ≡ level (file_shape (codes "step")) words
unfolding clap_on_literals
step_level p words =
    rw (stopped_walk top.rules names nothing_held 1 (codes "step") [] words, stopped_fault top names nothing_held 1 (codes "step") [] words)
    (or_none (level (file_shape (codes "step")) words))

-- a command line of `run` has the faults of the words after it
pub run_level : (p : Word) (words : List Word)
    → fault_of command_line (p ∷ codes "run" ∷ words) ≡ level (file_shape (codes "run")) words
unfolding clap_on_literals
run_level p words =
    rw (stopped_walk top.rules names nothing_held 1 (codes "run") [] words, stopped_fault top names nothing_held 1 (codes "run") [] words)
    (or_none (level (file_shape (codes "run")) words))

-- ---- the words after `cycles`

-- the faults of the words after `cycles`
abbrev pub cycles_fault : List Word → Kinds
cycles_fault words = level (new_shape (codes "cycles")) words

-- `cycles` refuses a word after `--`
pub separator_more : (w : Word) (rest : List Word) → Fails (cycles_fault (codes "--" ∷ w ∷ rest))
unfolding clap_on_literals
separator_more w rest = (kind.UnknownArgument, [], refl)

-- `cycles` refuses a word that is neither `--` nor a flag
pub stray_word : (w : Word) (rest : List Word) → IsPlain w → Fails (cycles_fault (w ∷ rest))
unfolding clap_on_literals
stray_word w rest plain = (kind.UnknownArgument, [], rw (plain.apart, plain.long, plain.short) refl)

-- `cycles` refuses a flag
pub stray_flag : (w : Word) (rest : List Word) → is_separator w ≡ false → IsFlag w → Fails (cycles_fault (w ∷ rest))
unfolding clap_on_literals
stray_flag w rest apart (is_long long None is) =
    elim (cases_Bool (bytes_eq (codes "help") long)) [
      | inl help ↦ (kind.DisplayHelp, [], rw (apart, is, help) refl)
      | inr other ↦ (kind.UnknownArgument, [], rw (apart, is, other) refl)
    ]
stray_flag w rest apart (is_long long (Some v) is) =
    elim (cases_Bool (bytes_eq (codes "help") long)) [
      | inl help ↦ (kind.TooManyValues, [], rw (apart, is, help) refl)
      | inr other ↦ (kind.UnknownArgument, [], rw (apart, is, other) refl)
    ]
stray_flag w rest apart (is_short x ch flags more long is begins) =
    elim (cases_Bool (104 == ch)) [
      | inl help ↦ (kind.DisplayHelp, [], rw (apart, long, is, begins, help) refl)
      | inr other ↦ (kind.UnknownArgument, [], rw (apart, long, is, begins, other) refl)
    ]

-- ---- the words after `step` or `run`

module _ (name : Word) where
  -- the faults of the words after a subcommand that requires FILE
  abbrev pub file_fault : List Word → Kinds
  file_fault words = level (file_shape name) words

  -- no word is a fault
  no_file : Fails (file_fault [])
  unfolding clap_on_literals
  no_file = (kind.MissingRequiredArgument, [], refl)

  -- `--` alone is a fault
  separator_alone : Fails (file_fault (codes "--" ∷ []))
  unfolding clap_on_literals
  separator_alone = (kind.MissingRequiredArgument, [], refl)

  -- two words after `--` are a fault
  any_two : (f g : Word) (rest : List Word) → Fails (file_fault (codes "--" ∷ f ∷ g ∷ rest))
  unfolding clap_on_literals
  any_two f g rest = (kind.UnknownArgument, [], refl)

  -- a flag as the first word is a fault
  flag_first : (f : Word) (rest : List Word) → is_separator f ≡ false → IsFlag f → Fails (file_fault (f ∷ rest))
  unfolding clap_on_literals
  flag_first f rest apart (is_long long None is) =
      elim (cases_Bool (bytes_eq (codes "help") long)) [
        | inl help ↦ (kind.DisplayHelp, [], rw (apart, is, help) refl)
        | inr other ↦ (kind.UnknownArgument, [], rw (apart, is, other) refl)
      ]
  flag_first f rest apart (is_long long (Some v) is) =
      elim (cases_Bool (bytes_eq (codes "help") long)) [
        | inl help ↦ (kind.TooManyValues, [], rw (apart, is, help) refl)
        | inr other ↦ (kind.UnknownArgument, [], rw (apart, is, other) refl)
      ]
  flag_first f rest apart (is_short x ch flags more long is begins) =
      elim (cases_Bool (104 == ch)) [
        | inl help ↦ (kind.DisplayHelp, [], rw (apart, long, is, begins, help) refl)
        | inr other ↦ (kind.UnknownArgument, [], rw (apart, long, is, begins, other) refl)
      ]

  module _ (f : Word) (plain : IsPlain f) where
    -- a word after a path and `--` is a fault
    separator_second : (g : Word) (rest : List Word) → Fails (file_fault (f ∷ codes "--" ∷ g ∷ rest))
    unfolding clap_on_literals
    separator_second g rest = (kind.UnknownArgument, [], rw (plain.apart, plain.long, plain.short) refl)

    -- a second path is a fault
    path_second : (g : Word) (rest : List Word) → IsPlain g → Fails (file_fault (f ∷ g ∷ rest))
    unfolding clap_on_literals
    path_second g rest also = (kind.UnknownArgument, [], rw (plain.apart, plain.long, plain.short, also.apart, also.long, also.short) refl)

    -- a flag after a path is a fault
    flag_second : (g : Word) (rest : List Word) → is_separator g ≡ false → IsFlag g → Fails (file_fault (f ∷ g ∷ rest))
    unfolding clap_on_literals
    flag_second g rest apart (is_long long None is) =
        elim (cases_Bool (bytes_eq (codes "help") long)) [
          | inl help ↦ (kind.DisplayHelp, [], rw (plain.apart, plain.long, plain.short, apart, is, help) refl)
          | inr other ↦ (kind.UnknownArgument, [], rw (plain.apart, plain.long, plain.short, apart, is, other) refl)
        ]
    flag_second g rest apart (is_long long (Some v) is) =
        elim (cases_Bool (bytes_eq (codes "help") long)) [
          | inl help ↦ (kind.TooManyValues, [], rw (plain.apart, plain.long, plain.short, apart, is, help) refl)
          | inr other ↦ (kind.UnknownArgument, [], rw (plain.apart, plain.long, plain.short, apart, is, other) refl)
        ]
    flag_second g rest apart (is_short x ch flags more long is begins) =
        elim (cases_Bool (104 == ch)) [
          | inl help ↦ (kind.DisplayHelp, [], rw (plain.apart, plain.long, plain.short, apart, long, is, begins, help) refl)
          | inr other ↦ (kind.UnknownArgument, [], rw (plain.apart, plain.long, plain.short, apart, long, is, begins, other) refl)
        ]

  -- Q is a fact of words and the path that they name, given for each of the three forms that name one
  module _
      (Q : List Word → Word → Type 0) (alone : (f : Word) → IsPlain f → Q (f ∷ []) f)
      (after : (f : Word) → Q (codes "--" ∷ f ∷ []) f)
      (before : (f : Word) → IsPlain f → Q (f ∷ codes "--" ∷ []) f) where
    -- words name a path and the fact holds for it, or they have a fault
    abbrev Reads : List Word → Type 0
    Reads words = MatchOption (path_in words) (Fails (file_fault words)) (Q words)

    -- the case of one word
    one_word : (f : Word) → WordKind f → Reads (f ∷ [])
    one_word f (separator is) = subst (λ w. Reads (w ∷ [])) (sym is) separator_alone
    one_word f (path is plain) = rw is (alone f plain)
    one_word f (flag apart is w) = rw is (flag_first f [] apart w)

    -- the case of a path and another word
    path_and_word : (f g : Word) → is_path f ≡ true → IsPlain f → WordKind g → Reads (f ∷ g ∷ [])
    path_and_word f g is plain (separator dashes) =
        subst (λ w. Reads (f ∷ w ∷ [])) (sym dashes) (rw (plain.apart, is) (before f plain))
    path_and_word f g is plain (path is_g also) = rw (plain.apart, is, also.apart) (path_second f plain g [] also)
    path_and_word f g is plain (flag apart is_g w) = rw (plain.apart, is, apart) (flag_second f plain g [] apart w)

    -- the case of two words
    two_words : (f g : Word) → WordKind f → WordKind g → Reads (f ∷ g ∷ [])
    two_words f g (separator is) also = subst (λ w. Reads (w ∷ g ∷ [])) (sym is) (after g)
    two_words f g (path is plain) also = path_and_word f g is plain also
    two_words f g (flag apart is w) also = rw (apart, is) (flag_first f (g ∷ []) apart w)

    -- a path and two or more words are a fault
    path_and_words : (f g h : Word) (rest : List Word) → IsPlain f → WordKind g → Fails (file_fault (f ∷ g ∷ h ∷ rest))
    path_and_words f g h rest plain (separator dashes) =
        subst (λ w. Fails (file_fault (f ∷ w ∷ h ∷ rest))) (sym dashes) (separator_second f plain h rest)
    path_and_words f g h rest plain (path is_g also) = path_second f plain g (h ∷ rest) also
    path_and_words f g h rest plain (flag apart is_g w) = flag_second f plain g (h ∷ rest) apart w

    -- three or more words are a fault
    three_words : (f g h : Word) (rest : List Word) → WordKind f → WordKind g → Fails (file_fault (f ∷ g ∷ h ∷ rest))
    three_words f g h rest (separator is) also = subst (λ w. Fails (file_fault (w ∷ g ∷ h ∷ rest))) (sym is) (any_two g h rest)
    three_words f g h rest (path is plain) also = path_and_words f g h rest plain also
    three_words f g h rest (flag apart is w) also = flag_first f (g ∷ h ∷ rest) apart w

    -- UTF-8 words name a path and the fact holds for it, or they have a fault
    pub file_words : (words : List Word) → All IsUtf8 words → Reads words
    file_words [] all = no_file
    file_words (f ∷ []) all = one_word f (word_kind f (All-head IsUtf8 f [] all))
    file_words (f ∷ g ∷ []) all =
        two_words f g (word_kind f (All-head IsUtf8 f (g ∷ []) all))
        (word_kind g (All-head IsUtf8 g [] (All-tail IsUtf8 f (g ∷ []) all)))
    file_words (f ∷ g ∷ h ∷ rest) all =
        three_words f g h rest (word_kind f (All-head IsUtf8 f (g ∷ h ∷ rest) all))
        (word_kind g (All-head IsUtf8 g (h ∷ rest) (All-tail IsUtf8 f (g ∷ h ∷ rest) all)))
