pub mod GrowLaws
mod ShapeLaws
