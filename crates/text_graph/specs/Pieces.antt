-- Pieces of a drawing in the DOT language of Graphviz.
use Rattle.std.specs.Prelude.{ℕ, ◌==◌, ◌&&◌, nat_le, if◌then◌else◌, List, [], ◌∷◌, ◌++◌, codes, decimal}
use Rattle.std.specs.List.{flat_map}
use Rattle.control_flow.specs.declared.edges.Label.{Label}
use Rattle.control_flow.specs.declared.edges.Label.TheVariants.{Skip, Do}
use Rattle.text_explained.specs.Columns.{share_text, thousandths}
use Rattle.text_graph.specs.Fills.{fill}

-- a byte inside of quotes: marks of the language by their escapes, a tab as a blank, controls and what is not ASCII as ?
abbrev pub escape : ℕ → List ℕ
escape b =
    if b == 34 then codes "\\\"" else if b == 92 then codes "\\\\" else if b == 38 then codes "&amp;"
    else if b == 9 then codes " " else if nat_le 32 b && nat_le b 126 then b ∷ [] else codes "?"

abbrev pub escaped : List ℕ → List ℕ
escaped text = flat_map escape text

-- the name of a node, by the first of its numbers
abbrev pub name : ℕ → List ℕ
name n = codes "n" ++ decimal n

-- ticks, and their share of the bound
abbrev pub shared : (ticks bound : ℕ) → List ℕ
shared ticks bound = codes "ticks " ++ (decimal ticks ++ (codes ", " ++ share_text ticks bound))

-- what the walk takes in a node that it passes, by the share of which in the bound the node is filled
abbrev pub node_taken : (passes ticks bound : ℕ) → List ℕ
node_taken passes ticks bound =
    codes "passes "
    ++ (decimal passes
    ++ (codes ", "
    ++ (shared ticks bound
    ++ (codes "\\l\", fillcolor=\"" ++ (fill (thousandths ticks bound) ++ codes "\"];")))))

-- the end of a node: grey where the walk never comes
abbrev pub node_end : (passes ticks bound : ℕ) → List ℕ
node_end passes ticks bound =
    if passes == 0 then codes "\", color=grey, fontcolor=grey50];" else node_taken passes ticks bound

abbrev pub edge_name : Label → List ℕ
edge_name Skip = codes "skip "
edge_name Do = codes "do "

-- so many times the ticks of an edge, with the sign for times in UTF-8; once they stand alone
abbrev pub times : (count cost : ℕ) → List ℕ
times count cost = if count == 1 then decimal cost else decimal count ++ (195 ∷ 151 ∷ decimal cost)

-- what the walk takes of an edge
abbrev pub edge_taken : Label → (count cost : ℕ) → List ℕ
edge_taken label count cost =
    codes " [label=\" " ++ (edge_name label ++ (times count cost ++ codes "\", style=bold];\n"))

-- the end of an edge: grey where that is nothing
abbrev pub edge_end : Label → (count cost : ℕ) → List ℕ
edge_end label count cost = if count == 0 then codes " [color=grey];\n" else edge_taken label count cost

abbrev pub heading : List ℕ
heading =
    codes "digraph handler {\nnode [shape=box, style=filled, fillcolor=white, margin=\"0.08,0.04\"];\n"
    ++ (codes "node [fontname=\"Courier\", fontsize=10];\nedge [fontname=\"Courier\", fontsize=10];\n"
    ++ codes "graph [fontname=\"Courier\", fontsize=10, labeljust=l, ranksep=0.3, nodesep=0.2];\n")
