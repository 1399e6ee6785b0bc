mod FoldLaws
mod HtmlLaws
mod LineLaws
mod MadeLaws
mod NoteLaws
mod RowLaws
