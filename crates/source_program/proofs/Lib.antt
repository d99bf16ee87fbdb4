mod Reading
mod Behind
mod Tables
