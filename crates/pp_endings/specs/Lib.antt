pub mod EndingsText
