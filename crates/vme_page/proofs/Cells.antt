-- The values after the cells of an event are those after all of its edges.
use Rattle.std.proofs.Common.{◌≡◌, ℕ, ◌+◌, ◌-◌, List, [], ◌∷◌, map, refl, ap, sym, ◌∙◌, arith}
use Rattle.vme_trace.specs.declared.dump.change.Change.{Change}
use Rattle.vme_trace.specs.declared.dump.change.Value.{Value}
use Rattle.vme_trace.specs.Shown.{value_over}
use Rattle.vme_page.specs.declared.diagram.layout.Bar.{Bar}
use Rattle.vme_page.specs.declared.diagram.levels.Levels.{Levels}
use Rattle.vme_page.specs.declared.diagram.window.Window.{Window}
use Rattle.vme_page.specs.declared.diagram.window.Window.TheVariants.{Whole}
use Rattle.vme_page.specs.Windows.{first_edge, end_edge}
use Rattle.vme_page.specs.Levels.{levels_over, levels_past}
use Rattle.vme_page.specs.Layouts.{layout_past}
use Rattle.vme_page.specs.Diagrams.{DiagramView, IsOneCell, AreTwoCells, IsWholeEvent}
use Rattle.vme_page.proofs.Edges.{over_more}

-- the values after some edges and then others
levels_more : (changes : List Change) (edge a b : ℕ) (l : Levels)
    → levels_over changes edge (a + b) l ≡ levels_over changes (edge + a) b (levels_over changes edge a l)
unfolding levels_over
levels_more changes edge a b l = simp over_more

-- a function of edges that goes on from edge to edge gives the same in one part and in two
two_parts : {A : Type 0} (f : ℕ → ℕ → A → A) → ((edge a b : ℕ) (x : A) → f edge (a + b) x ≡ f (edge + a) b (f edge a x))
    → (w v : Window) → AreTwoCells w v → (x : A)
    → f (first_edge v) (end_edge v - first_edge v) (f (first_edge w) (end_edge w - first_edge w) x) ≡ f 0 20 x
two_parts f more w v two x =
    let a = end_edge w - first_edge w in
    let b = end_edge v - first_edge v in
    let place : first_edge v ≡ first_edge w + a = omega (arith, two.begins, two.joined) in
    let count : a + b ≡ 20 = omega (arith, two.begins, two.within, two.joined, two.ends) in
    ap (λ (e : ℕ). f e b (f (first_edge w) a x)) place ∙ sym (more (first_edge w) a b x)
    ∙ ap (λ (e : ℕ). f e (a + b) x) two.begins ∙ ap (λ (n : ℕ). f 0 n x) count

-- a fold over the edges of the one cell of an event is one over all edges
one_part : {A : Type 0} (f : ℕ → ℕ → A → A) (w : Window) → IsOneCell w → (x : A) → f (first_edge w) (end_edge w - first_edge w) x ≡ f 0 20 x
one_part f w one x =
    let count : end_edge w - first_edge w ≡ 20 = omega (arith, one.begins, one.ends) in
    ap (λ (n : ℕ). f (first_edge w) n x) count ∙ ap (λ (e : ℕ). f e 20 x) one.begins

-- a bar after its changes at some edges
abbrev bar_over : List Change → ℕ → ℕ → Bar → Bar
bar_over changes edge count bar = record bar {
  request = value_over bar.request_code changes edge count bar.request;
  busy = value_over bar.busy_code changes edge count bar.busy;
}

-- a bar after some edges and then others
bar_more : (changes : List Change) (edge a b : ℕ) (bar : Bar)
    → bar_over changes edge (a + b) bar ≡ bar_over changes (edge + a) b (bar_over changes edge a bar)
bar_more changes edge a b bar =
    let request = value_over bar.request_code changes edge (a + b) bar.request in
    let busy = value_over bar.busy_code changes (edge + a) b (value_over bar.busy_code changes edge a bar.busy) in
    ap (λ (v : Value). record bar { request = request; busy = v }) (over_more bar.busy_code changes edge a b bar.busy)
    ∙ ap (λ (v : Value). record bar { request = v; busy = busy }) (over_more bar.request_code changes edge a b bar.request)

-- bars after some edges and then others
bars_more : (changes : List Change) (edge a b : ℕ) (bars : List Bar)
    → map (bar_over changes edge (a + b)) bars ≡ map (bar_over changes (edge + a) b) (map (bar_over changes edge a) bars)
bars_more changes edge a b [] = refl
bars_more changes edge a b (bar ∷ bars) =
    ap (λ (first : Bar). first ∷ map (bar_over changes edge (a + b)) bars) (bar_more changes edge a b bar)
    ∙ ap (λ (rest : List Bar). bar_over changes (edge + a) b (bar_over changes edge a bar) ∷ rest) (bars_more changes edge a b bars)

-- after the one cell of an event
pub one_whole : (changes : List Change) (w : Window) (old begun new : DiagramView) → IsOneCell w
    → begun.levels ≡ old.levels → begun.layout ≡ old.layout
    → new.levels ≡ levels_past w changes begun.levels → new.layout ≡ layout_past w changes begun.layout
    → IsWholeEvent changes old new
one_whole changes w old begun new one levels layout last_levels last_layout = record {
  levels = last_levels ∙ one_part (levels_over changes) w one begun.levels ∙ ap (levels_past Whole changes) levels;
  layout = last_layout
      ∙ ap (λ (bars : List Bar). record begun.layout { bars = bars })
      (one_part (λ (edge count : ℕ) (bars : List Bar). map (bar_over changes edge count) bars) w one begun.layout.bars)
      ∙ ap (layout_past Whole changes) layout;
}

-- after the two cells of an event
pub two_whole : (changes : List Change) (w v : Window) (old begun mid new : DiagramView) → AreTwoCells w v
    → begun.levels ≡ old.levels → begun.layout ≡ old.layout
    → mid.levels ≡ levels_past w changes begun.levels → mid.layout ≡ layout_past w changes begun.layout
    → new.levels ≡ levels_past v changes mid.levels → new.layout ≡ layout_past v changes mid.layout
    → IsWholeEvent changes old new
two_whole changes w v old begun mid new two levels layout mid_levels mid_layout last_levels last_layout = record {
  levels = last_levels ∙ ap (levels_past v changes) mid_levels
      ∙ two_parts (levels_over changes) (levels_more changes) w v two begun.levels ∙ ap (levels_past Whole changes) levels;
  layout = last_layout ∙ ap (layout_past v changes) mid_layout
      ∙ ap (λ (bars : List Bar). record begun.layout { bars = bars })
      (two_parts (λ (edge count : ℕ) (bars : List Bar). map (bar_over changes edge count) bars) (bars_more changes) w v two begun.layout.bars)
      ∙ ap (layout_past Whole changes) layout;
}

-- what is done before an event that leaves values and layout
pub after_kept : (changes : List Change) (old mid new : DiagramView) → mid.levels ≡ old.levels → mid.layout ≡ old.layout
    → IsWholeEvent changes mid new → IsWholeEvent changes old new
after_kept changes old mid new levels layout whole = record {
  levels = whole.levels ∙ ap (levels_past Whole changes) levels;
  layout = whole.layout ∙ ap (layout_past Whole changes) layout;
}
