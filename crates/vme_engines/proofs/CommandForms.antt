-- The parser accepts exactly the words that have a form, and enters the subcommand of that form.
use Rattle.std.proofs.Common.{◌≡◌, ◌==◌, inl, inr, ◌∙◌, false, List, [], ◌∷◌, length, codes, refl, sym, ap, subst, Option, Some, None, bytes_eq, IsUtf8, option_map, arith, All, MatchOption}
use Rattle.std.proofs.lemmas.Bool.{cases_Bool}
use Rattle.std.proofs.lemmas.Slice.Eq.{bytes_eq-Decides}
use Rattle.std.proofs.lemmas.List.Elements.{All-head, All-tail}
use Rattle.clap.specs.Words.{fault_of, subcommand_of, Kinds}
use Rattle.clap.specs.declared.error.kind.ErrorKind.TheVariants as kind
use Rattle.clap.proofs.OnLiterals.{clap_on_literals}
use Rattle.vme_engines.specs.CommandLines.{Word, Asked, Cycles, Step, Run, is_separator, path_in, cycles_in, asked_after, asked_in}
use Rattle.vme_engines.specs.Subcommands.{command_line, file_shape, asked_by_entered}
use Rattle.vme_engines.proofs.CommandWords.{IsFlag, is_long, is_short, IsPlain, WordKind, separator, path, flag, word_kind}
use Rattle.vme_engines.proofs.SubcommandFaults.{Fails, level, cycles_level, step_level, run_level, cycles_fault, separator_more, stray_word, stray_flag, file_words}

-- the parser accepts the words, and the subcommand that it enters asks for this
abbrev Accepts : List Word → Asked → Type 0
Accepts words asked = (fault_of command_line words ≡ []) × (asked_by_entered (subcommand_of command_line words) ≡ Some asked)

-- the parser accepts words with a form, as that form, and refuses words without one
abbrev Agrees : List Word → Option Asked → Type 0
Agrees words form = MatchOption form (Fails (fault_of command_line words)) (Accepts words)

-- ---- `step` and `run`

-- `step FILE` is accepted
step_alone : (p f : Word) → IsPlain f → Accepts (p ∷ codes "step" ∷ f ∷ []) (Step f)
unfolding clap_on_literals
step_alone p f plain = (rw (plain.apart, plain.long, plain.short) refl, rw (plain.apart, plain.long, plain.short) refl)

-- `step -- FILE` is accepted
step_after : (p f : Word) → Accepts (p ∷ codes "step" ∷ codes "--" ∷ f ∷ []) (Step f)
unfolding clap_on_literals
step_after p f = (refl, refl)

-- `step FILE --` is accepted
step_before : (p f : Word) → IsPlain f → Accepts (p ∷ codes "step" ∷ f ∷ codes "--" ∷ []) (Step f)
unfolding clap_on_literals
step_before p f plain = (rw (plain.apart, plain.long, plain.short) refl, rw (plain.apart, plain.long, plain.short) refl)

-- `run FILE` is accepted
run_alone : (p f : Word) → IsPlain f → Accepts (p ∷ codes "run" ∷ f ∷ []) (Run f)
unfolding clap_on_literals
run_alone p f plain = (rw (plain.apart, plain.long, plain.short) refl, rw (plain.apart, plain.long, plain.short) refl)

-- `run -- FILE` is accepted
run_after : (p f : Word) → Accepts (p ∷ codes "run" ∷ codes "--" ∷ f ∷ []) (Run f)
unfolding clap_on_literals
run_after p f = (refl, refl)

-- `run FILE --` is accepted
run_before : (p f : Word) → IsPlain f → Accepts (p ∷ codes "run" ∷ f ∷ codes "--" ∷ []) (Run f)
unfolding clap_on_literals
run_before p f plain = (rw (plain.apart, plain.long, plain.short) refl, rw (plain.apart, plain.long, plain.short) refl)

-- the parser agrees with the form if it agrees with the path that the words name
with_path :
    (words : List Word) (ask : Word → Asked) (kinds : Kinds) → fault_of command_line words ≡ kinds → (path : Option Word)
    → MatchOption path (Fails kinds) (λ f. Accepts words (ask f)) → Agrees words (option_map ask path)
with_path words ask kinds same None fails = subst Fails (sym same) fails
with_path words ask kinds same (Some f) accepted = accepted

-- the parser agrees with the form of words after `step`
step_agrees : (p : Word) (words : List Word) → All IsUtf8 words
    → Agrees (p ∷ codes "step" ∷ words) (option_map Step (path_in words))
step_agrees p words all =
    with_path (p ∷ codes "step" ∷ words) Step (level (file_shape (codes "step")) words) (step_level p words) (path_in words)
    (file_words (codes "step") (λ words f. Accepts (p ∷ codes "step" ∷ words) (Step f)) (step_alone p) (step_after p) (step_before p) words all)

-- the parser agrees with the form of words after `run`
run_agrees : (p : Word) (words : List Word) → All IsUtf8 words → Agrees (p ∷ codes "run" ∷ words) (option_map Run (path_in words))
run_agrees p words all =
    with_path (p ∷ codes "run" ∷ words) Run (level (file_shape (codes "run")) words) (run_level p words) (path_in words)
    (file_words (codes "run") (λ words f. Accepts (p ∷ codes "run" ∷ words) (Run f)) (run_alone p) (run_after p) (run_before p) words all)

-- ---- `cycles`

-- `cycles` is accepted
cycles_alone : (p : Word) → Accepts (p ∷ codes "cycles" ∷ []) Cycles
unfolding clap_on_literals
cycles_alone p = (refl, refl)

-- `cycles --` is accepted
cycles_separator : (p : Word) → Accepts (p ∷ codes "cycles" ∷ codes "--" ∷ []) Cycles
unfolding clap_on_literals
cycles_separator p = (refl, refl)

-- a fault of the words after `cycles` is one of the command line
cycles_fails : (p : Word) (words : List Word) → Fails (cycles_fault words)
    → Fails (fault_of command_line (p ∷ codes "cycles" ∷ words))
cycles_fails p words fails = subst Fails (sym (cycles_level p words)) fails

-- the parser agrees with the form of one word after `cycles`
cycles_word : (p w : Word) → WordKind w → Agrees (p ∷ codes "cycles" ∷ w ∷ []) (cycles_in (w ∷ []))
cycles_word p w (separator is) =
    subst (λ w. Agrees (p ∷ codes "cycles" ∷ w ∷ []) (cycles_in (w ∷ []))) (sym is) (cycles_separator p)
cycles_word p w (path is plain) = rw plain.apart (cycles_fails p (w ∷ []) (stray_word w [] plain))
cycles_word p w (flag apart is f) = rw apart (cycles_fails p (w ∷ []) (stray_flag w [] apart f))

-- two or more words after `cycles` are a fault
cycles_words : (p w v : Word) (rest : List Word) → WordKind w → Fails (fault_of command_line (p ∷ codes "cycles" ∷ w ∷ v ∷ rest))
cycles_words p w v rest (separator is) =
    subst (λ w. Fails (fault_of command_line (p ∷ codes "cycles" ∷ w ∷ v ∷ rest))) (sym is)
    (cycles_fails p (codes "--" ∷ v ∷ rest) (separator_more v rest))
cycles_words p w v rest (path is plain) = cycles_fails p (w ∷ v ∷ rest) (stray_word w (v ∷ rest) plain)
cycles_words p w v rest (flag apart is f) = cycles_fails p (w ∷ v ∷ rest) (stray_flag w (v ∷ rest) apart f)

-- the parser agrees with the form of words after `cycles`
cycles_agrees : (p : Word) (words : List Word) → All IsUtf8 words → Agrees (p ∷ codes "cycles" ∷ words) (cycles_in words)
cycles_agrees p [] all = cycles_alone p
cycles_agrees p (w ∷ []) all = cycles_word p w (word_kind w (All-head IsUtf8 w [] all))
cycles_agrees p (w ∷ v ∷ rest) all = cycles_words p w v rest (word_kind w (All-head IsUtf8 w (v ∷ rest) all))

-- ---- no subcommand of a form

-- an empty command line, without the program's name, is a fault
no_words : Fails (fault_of command_line [])
unfolding clap_on_literals
no_words = (kind.MissingSubcommand, [], refl)

-- the program's name alone is a fault
no_command : (p : Word) → Fails (fault_of command_line (p ∷ []))
unfolding clap_on_literals
no_command p = (kind.MissingSubcommand, [], refl)

-- `help` as the command is a fault
help_command : (p : Word) (rest : List Word) → Fails (fault_of command_line (p ∷ codes "help" ∷ rest))
unfolding clap_on_literals
help_command p rest = (kind.DisplayHelp, kind.InvalidSubcommand ∷ [], refl)

-- `--` as the command is a fault
separator_command : (p : Word) (rest : List Word) → Fails (fault_of command_line (p ∷ codes "--" ∷ rest))
unfolding clap_on_literals
separator_command p [] = (kind.MissingSubcommand, [], refl)
separator_command p (w ∷ rest) = (kind.UnknownArgument, kind.InvalidSubcommand ∷ [], refl)

module _
    (p w : Word) (rest : List Word) (cycles : bytes_eq (codes "cycles") w ≡ false) (step : bytes_eq (codes "step") w ≡ false)
    (run : bytes_eq (codes "run") w ≡ false) (help : bytes_eq (codes "help") w ≡ false) where
  -- any other word as the command is a fault
  other_word : IsPlain w → Fails (fault_of command_line (p ∷ w ∷ rest))
  unfolding clap_on_literals
  other_word plain =
      (kind.UnknownArgument, kind.InvalidSubcommand ∷ [], rw (cycles, step, run, help, plain.apart, plain.long, plain.short) refl)

  -- a flag as the command is a fault
  other_flag : is_separator w ≡ false → IsFlag w → Fails (fault_of command_line (p ∷ w ∷ rest))
  unfolding clap_on_literals
  other_flag apart (is_long long None is) =
      elim (cases_Bool (bytes_eq (codes "help") long)) [
        | inl same ↦ (kind.DisplayHelp, [], rw (cycles, step, run, help, apart, is, same) refl)
        | inr other ↦ (kind.UnknownArgument, [], rw (cycles, step, run, help, apart, is, other) refl)
      ]
  other_flag apart (is_long long (Some v) is) =
      elim (cases_Bool (bytes_eq (codes "help") long)) [
        | inl same ↦ (kind.TooManyValues, [], rw (cycles, step, run, help, apart, is, same) refl)
        | inr other ↦ (kind.UnknownArgument, [], rw (cycles, step, run, help, apart, is, other) refl)
      ]
  other_flag apart (is_short x ch flags more long is begins) =
      elim (cases_Bool (104 == ch)) [
        | inl same ↦ (kind.DisplayHelp, [], rw (cycles, step, run, help, apart, long, is, begins, same) refl)
        | inr other ↦ (kind.UnknownArgument, [], rw (cycles, step, run, help, apart, long, is, begins, other) refl)
      ]

  -- a command that is none of `cycles`, `step`, `run` and `help` is a fault
  other_command : WordKind w → Fails (fault_of command_line (p ∷ w ∷ rest))
  other_command (separator is) = subst (λ w. Fails (fault_of command_line (p ∷ w ∷ rest))) (sym is) (separator_command p rest)
  other_command (path is plain) = other_word plain
  other_command (flag apart is f) = other_flag apart f

module _ (p w : Word) (rest : List Word) (all : All IsUtf8 (w ∷ rest)) where
  -- the parser agrees with the form of a command line with this command
  abbrev Holds : Word → Type 0
  Holds word = Agrees (p ∷ word ∷ rest) (asked_after (word ∷ rest))

  -- the words after the command are UTF-8
  after : All IsUtf8 rest
  after = All-tail IsUtf8 w rest all

  -- the parser agrees with the form of a command line with a command
  command_agrees : Holds w
  command_agrees =
      elim (cases_Bool (bytes_eq (codes "cycles") w)) [
        | inl same ↦ subst Holds ((bytes_eq-Decides (codes "cycles") w).0 same) (cycles_agrees p rest after)
        | inr cycles ↦
            elim (cases_Bool (bytes_eq (codes "step") w)) [
              | inl same ↦ subst Holds ((bytes_eq-Decides (codes "step") w).0 same) (step_agrees p rest after)
              | inr step ↦
                  elim (cases_Bool (bytes_eq (codes "run") w)) [
                    | inl same ↦ subst Holds ((bytes_eq-Decides (codes "run") w).0 same) (run_agrees p rest after)
                    | inr run ↦
                        rw (cycles, step, run)
                        (elim (cases_Bool (bytes_eq (codes "help") w)) [
                          | inl same ↦
                              subst (λ w. Fails (fault_of command_line (p ∷ w ∷ rest)))
                              ((bytes_eq-Decides (codes "help") w).0 same) (help_command p rest)
                          | inr help ↦ other_command p w rest cycles step run help (word_kind w (All-head IsUtf8 w rest all))
                        ])
                  ]
            ]
      ]

-- the parser agrees with the form of each command line
agrees : (words : List Word) → All IsUtf8 words → Agrees words (asked_in words)
agrees [] all = no_words
agrees (p ∷ []) all = no_command p
agrees (p ∷ w ∷ rest) all = command_agrees p w rest (All-tail IsUtf8 p (w ∷ rest) all)

-- ---- from a parse to the form

module _ (words : List Word) (all : All IsUtf8 words) where
  -- if the parser agrees with a form and finds no fault, the form is that of the subcommand that it entered
  entered_form :
      (form : Option Asked) → Agrees words form → fault_of command_line words ≡ [] → (asked : Asked)
      → asked_by_entered (subcommand_of command_line words) ≡ Some asked → form ≡ Some asked
  entered_form None fails none asked entered =
      let same : fails.0 ∷ fails.1 ≡ [] = sym fails.2 ∙ none in absurd (omega (arith, ap length same))
  entered_form (Some form) accepted none asked entered = sym accepted.1 ∙ entered

  -- if the parser agrees with a form and entered no subcommand of a form, there is no form
  entered_none : (form : Option Asked) → Agrees words form → asked_by_entered (subcommand_of command_line words) ≡ None
      → form ≡ None
  entered_none None fails entered = refl
  entered_none (Some form) accepted entered = sym accepted.1 ∙ entered

  -- if the parser agrees with a form and finds a fault, there is no form
  failed_none : (form : Option Asked) → Agrees words form → (fault_of command_line words ≡ [] → ⊥) → form ≡ None
  failed_none None fails failed = refl
  failed_none (Some form) accepted failed = absurd (failed accepted.0)

  -- the form of accepted words is that of the subcommand that was entered
  pub form_of_entered :
      fault_of command_line words ≡ [] → (asked : Asked) → asked_by_entered (subcommand_of command_line words) ≡ Some asked
      → asked_in words ≡ Some asked
  form_of_entered none asked entered = entered_form (asked_in words) (agrees words all) none asked entered

  -- words have no form if no subcommand of a form was entered
  pub none_of_entered : asked_by_entered (subcommand_of command_line words) ≡ None → asked_in words ≡ None
  none_of_entered entered = entered_none (asked_in words) (agrees words all) entered

  -- words have no form if the parse fails
  pub none_of_failed : (fault_of command_line words ≡ [] → ⊥) → asked_in words ≡ None
  none_of_failed failed = failed_none (asked_in words) (agrees words all) failed
